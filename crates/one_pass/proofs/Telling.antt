-- What a table tells.
use Rattle.std.proofs.Common.{◌⊎◌, ℕ, ◌<◌, List, [], length, inl, inr, sym, ap, subst, ◌∙◌}
use Rattle.std.specs.Prelude.{IsTrue}
use Rattle.span_core.specs.Lists.{Has}
use Rattle.span_core.proofs.HasLaws.{Has-append_left, Has-get_or}
use Rattle.marked_automaton.specs.Automaton.{Automaton}
use Rattle.automaton_reading.specs.Reading.{LookUp, Reach, byte_read}
use Rattle.automaton_reading.proofs.MeasureLaws.{bytes_itself}
use Rattle.set_table.specs.Tabled.{IsTabled, Stays, Tabled, look_up}
use Rattle.numbered_lists.specs.Numbered.{set_at}
use Rattle.one_pass.specs.Passes.{HasGrown}
use Rattle.one_pass.specs.Weights.{Tells, is_one_back, leads_back}

-- what it holds
pub held_tells : (t : Tabled) → IsTabled t → (r : LookUp) → Has t.look_ups r → Tells t r
held_tells t tabled r held = record { set = tabled.asked r held; answer = inl held }

-- where a set stays
pub stays_tells : (t : Tabled) (k b : ℕ) → k < length t.sets → Stays t k b → Tells t (look_up t k (byte_read b))
stays_tells t k b within stays = record {
  set = Has-get_or t.sets k [] within;
  answer = inr (ap (λ (es : List Reach). is_one_back (set_at t.sets k) es) stays ∙ bytes_itself (set_at t.sets k));
}

-- and it still tells what it told
pub tells_grown : (t u : Tabled) (sets : List (List ℕ)) (look_ups : List LookUp) → HasGrown t u sets look_ups → (r : LookUp) → Tells t r → Tells u r
tells_grown t u sets look_ups g r told = record {
  set = subst (λ (xs : List (List ℕ)). Has xs r.set) g.kept.1 (Has-append_left t.sets g.kept.0 r.set told.set);
  answer = elim told.answer as (λ _. Has u.look_ups r ⊎ IsTrue (leads_back u.graph r)) [
    | inl held ↦ inl (g.stay r held)
    | inr back ↦ inr (subst (λ (A : Automaton). IsTrue (leads_back A r)) (sym g.graph) back)
  ];
}
