use Rattle.std.proofs.Common.{◌≡◌, ◌+◌, ◌^◌, ap, ◌∙◌, ℕ}
use Rattle.std.specs.Prelude.{bit_or}
use Rattle.span_core.specs.Block.{opening_bit, closing_bit}
use Rattle.span_core.specs.Lists.{Has}
use Rattle.span_core.proofs.HasLaws.{Contains-Has}
use Rattle.place_automaton.specs.Capped.{AreCapped}
use Rattle.place_automaton.specs.Counts.{counts_cap}
use Rattle.place_automaton.specs.Sides.{JoinAsSum}
use Rattle.place_automaton.specs.Words.{opening_of, closing_of}
use Rattle.place_automaton.proofs.CapPlaces.{opening_at, closing_at}
use Rattle.place_automaton.proofs.counting.captured.Goals as goal

pub captured-requires : goal.captured-requires
captured-requires c =
    let names = c.args.vars.now in
    let x = c.args.name.now in
    let o = c.opening.ensures ∙ (ap (λ (v : ℕ). 2 ^ opening_bit v c.in-Some.k) c.len-count.ensures.value ∙ opening_at names c.in-Some.k x c.requires.distinct c.in-Some.ensures.some) in
    let e = c.closing.ensures ∙ (ap (λ (v : ℕ). 2 ^ closing_bit v c.in-Some.k) c.len-count.ensures.value ∙ closing_at names c.in-Some.k x c.requires.distinct c.in-Some.ensures.some) in
    let both : c.with.result ≡ opening_of names x + closing_of names x =
    c.with.ensures ∙ (ap (λ (n : ℕ). bit_or n c.closing.result) o ∙ (ap (λ (n : ℕ). bit_or (opening_of names x) n) e ∙ c.requires.apart)) in
    rw both c.requires.marks

pub returns-in-Some : goal.returns-in-Some
returns-in-Some c = λ a p.
    let names = c.args.vars.now in
    let x = c.args.name.now in
    let o = c.opening.ensures ∙ (ap (λ (v : ℕ). 2 ^ opening_bit v c.in-Some.k) c.len-count.ensures.value ∙ opening_at names c.in-Some.k x c.requires.distinct c.in-Some.ensures.some) in
    let e = c.closing.ensures ∙ (ap (λ (v : ℕ). 2 ^ closing_bit v c.in-Some.k) c.len-count.ensures.value ∙ closing_at names c.in-Some.k x c.requires.distinct c.in-Some.ensures.some) in
    let both : c.with.result ≡ opening_of names x + closing_of names x =
    c.with.ensures ∙ (ap (λ (n : ℕ). bit_or n c.closing.result) o ∙ (ap (λ (n : ℕ). bit_or (opening_of names x) n) e ∙ c.requires.apart)) in
    rw (← both) (c.captured.ensures a p)

pub returns-in-None : goal.returns-in-None
returns-in-None c = absurd (c.in-None.ensures.none (Contains-Has c.args.vars.now c.args.name.now c.requires.named))
