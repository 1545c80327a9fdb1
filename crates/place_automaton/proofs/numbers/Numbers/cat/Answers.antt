use Rattle.std.proofs.Common.{◌≡◌, ◌+◌, ◌*◌, ◌∙◌, ap, arith, length, List, ℕ}
use Rattle.place_automaton.specs.Capped.{capped}
use Rattle.place_automaton.specs.Places.{sums}
use Rattle.place_automaton.proofs.CappedLaws.{sum_of, product_of}
use Rattle.place_automaton.proofs.numbers.Numbers.cat.Goals as goal

pub returns-clause-capped : goal.returns-clause-capped
returns-clause-capped c = λ a b p q.
    let x = c.args.self in
    let y = c.args.rest in
    let here : length x.null.items ≡ length a.null = ap (λ (ms : List ℕ). length ms) p.null in
    let there : length y.null.items ≡ length b.null = ap (λ (ms : List ℕ). length ms) q.null in
    let front : c.len-sets.result ≡ capped (length a.null) = omega (arith, c.len-sets.ensures, x.null.ok.0, here) in
    let behind : c.len-rest_sets.result ≡ capped (length b.null) = omega (arith, c.len-rest_sets.ensures, y.null.ok.0, there) in
    record {
      null = c.in_ok-null.ensures ∙ (ap (λ ms. sums ms y.null.items) p.null ∙ ap (λ ns. sums a.null ns) q.null);
      first = sum_of x.first c.saturating_mul.result a.first (length a.null * b.first) c.saturating_add.result p.first
          (product_of c.len-sets.result y.first (length a.null) b.first c.saturating_mul.result front q.first c.saturating_mul.ensures) c.saturating_add.ensures;
      last = sum_of y.last c.saturating_mul-2.result b.last (length b.null * a.last) c.saturating_add-2.result q.last
          (product_of c.len-rest_sets.result x.last (length b.null) a.last c.saturating_mul-2.result behind p.last c.saturating_mul-2.ensures) c.saturating_add-2.ensures;
      follow = sum_of c.saturating_add-3.result c.saturating_mul-between.result (a.follow + b.follow) (a.last * b.first) c.saturating_add-4.result
          (sum_of x.follow y.follow a.follow b.follow c.saturating_add-3.result p.follow q.follow c.saturating_add-3.ensures)
          (product_of x.last y.first a.last b.first c.saturating_mul-between.result p.last q.first c.saturating_mul-between.ensures) c.saturating_add-4.ensures;
    }
