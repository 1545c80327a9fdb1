-- Automata that are the same but for the order of their idle states.
use Rattle.std.proofs.Common.{List, length, get_or, ◌≡◌, ℕ, ◌<◌, ◌↔◌, subst, sym}
use Rattle.span_core.specs.Lists.{Has}
use Rattle.span_core.proofs.HasLaws.{Has-map_cases, Has-get_or}
use Rattle.marked_automaton.specs.declared.way.Way.{Way}
use Rattle.marked_automaton.specs.declared.way.Stop.{Stop}
use Rattle.marked_automaton.specs.Automaton.{Automaton, IsWhole}
use Rattle.marked_automaton.specs.Marks.{remarked, remarked_way, remarked_stop}
use Rattle.marked_automaton.specs.Reduct.{Reduces}
use Rattle.marked_automaton.proofs.Rearranged.{reduct_of_itself}

pub record IsAlike (A B : Automaton) : Type 0 where
  pub states : A.states ≡ B.states
  pub starts : A.starts ≡ B.starts
  pub ways : A.ways ≡ B.ways
  pub stops : A.stops ≡ B.stops
  pub idles : (p : ℕ) → Has A.idle p ↔ Has B.idle p

pub alike_reduces : (A B : Automaton) → IsWhole B → IsAlike A B → Reduces A B
alike_reduces A B whole e =
    let self = reduct_of_itself B whole in
    let r = self.3 in
    let M : Automaton = record { states = B.states; starts = B.starts; ways = B.ways; stops = B.stops; idle = A.idle } in
    let same : M ≡ A = (λ i. record { states = sym e.states i; starts = sym e.starts i; ways = sym e.ways i; stops = sym e.stops i; idle = A.idle }) in
    let h : Reduces M B = (
      self.0,
      self.1,
      self.2,
      record {
        from_states = r.from_states;
        to_states = r.to_states;
        onto = r.onto;
        starts_there = r.starts_there;
        starts_back = r.starts_back;
        knows_ends = r.knows_ends;
        knows_before = r.knows_before;
        ways_known = r.ways_known;
        ways_there = r.ways_there;
        ways_back = r.ways_back;
        ends_back = r.ends_back;
        ends_there = r.ends_there;
        ends_apart = r.ends_apart;
        idles = λ b a at. ((λ x. (r.idles b a at).0 ((e.idles a).0 x)), (λ x. (e.idles a).1 ((r.idles b a at).1 x)));
      },
    ) in
    rw (← same) h

pub remarked_whole : (e : ℕ → ℕ) (A : Automaton) → IsWhole A → IsWhole (remarked e A)
remarked_whole e A w = record {
  starts = w.starts;
  froms = λ y h. let r = Has-map_cases (remarked_way e) A.ways y h in rw (← r.2) (w.froms r.0 r.1);
  tos = λ y h. let r = Has-map_cases (remarked_way e) A.ways y h in rw (← r.2) (w.tos r.0 r.1);
  stops = λ s h. let r = Has-map_cases (remarked_stop e) A.stops s h in rw (← r.2) (w.stops r.0 r.1);
  idles = w.idles;
}

-- what stands at a place of a list that is another
pub Has-item : {X : Type 0} (xs ys : List X) (i : ℕ) (x : X) → xs ≡ ys → i < length xs → x ≡ get_or xs i x → Has ys x
Has-item xs ys i x same within is = rw (← same) (subst (Has xs) (sym is) (Has-get_or xs i x within))
