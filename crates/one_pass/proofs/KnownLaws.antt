-- What is known of whole layers: it stays true while the table grows, and more may be entered.
use Rattle.std.proofs.Common.{◌≡◌, ◌⊎◌, ℕ, zero, suc, ◌+◌, ◌<◌, ◌≤◌, Bool, true, false, List, [], ◌∷◌, ◌++◌, length, get_or, map, take, Some, inl, inr, refl, sym, ap, subst, arith, ◌∙◌, length-append, add-one, if◌then◌else◌}
use Rattle.std.specs.Prelude.{◌&&◌, ◌==◌, slice_get}
use Rattle.std.specs.Bool.{Decides}
use Rattle.std.proofs.lemmas.Bool.{and_from, and_parts, eqb-true, eq-eqb}
use Rattle.std.proofs.lemmas.List.{get_or_append_left, take_more}
use Rattle.std.proofs.lemmas.Option.{slice_get_within, same_Some}
use Rattle.std.specs.List.{list_any}
use Rattle.std.specs.Str.{bytes_eq}
use Rattle.span_core.proofs.HasLaws.{Has-append_cases, Has-take_more_cases}
use Rattle.span_core.specs.declared.edge.Edge.{Edge}
use Rattle.marked_automaton.specs.Automaton.{Automaton}
use Rattle.span_core.specs.Lists.{AreDistinct, Has}
use Rattle.span_core.proofs.ListLaws.{get_left, get_last}
use Rattle.automaton_reading.specs.Reading.{LookUp, byte_read, edges}
use Rattle.output_graph.specs.Named.{handing, handing_to}
use Rattle.output_graph.specs.Sound.{edges_of}
use Rattle.output_graph.specs.Source.{Edges}
use Rattle.output_graph.proofs.HeldLaws.{take_next}
use Rattle.one_pass.specs.declared.entries.Entries.{Entries}
use Rattle.one_pass.specs.declared.entries.Entry.{Entry}
use Rattle.one_pass.specs.declared.entries.Entry.TheVariants.{Unknown, Glide, Run}
use Rattle.one_pass.specs.KnownSteps.{KnownStep}
use Rattle.set_table.specs.Tabled.{HasEdges, Tabled, edge_named, look_up}
use Rattle.numbered_lists.specs.Numbered.{set_at, with_set}
use Rattle.set_table.proofs.NamingLaws.{named_stay}
use Rattle.one_pass.specs.Entered.{has_entry, entry_place}
use Rattle.one_pass.specs.Entries.{entry_at}
use Rattle.one_pass.proofs.EntryLaws.{within_asked}
use Rattle.one_pass.specs.Known.{AreAlike, AreLookUps, IsAlike, IsEntry, IsKnown, IsLookUp, layer_at}
use Rattle.one_pass.specs.Passes.{HasGrown}

-- ---- a table that grows

module _ (t u : Tabled) (more : List (List ℕ)) (graph : u.graph ≡ t.graph) (kept : t.sets ++ more ≡ u.sets) (stay : (look_up : LookUp) → Has t.look_ups look_up → Has u.look_ups look_up) where
  named_grown : (s : ℕ) → s < length t.sets → set_at u.sets s ≡ set_at t.sets s
  named_grown s h = ap (λ (xs : List (List ℕ)). get_or xs s []) (sym kept) ∙ get_or_append_left t.sets more [] s h

  given_grown : (s : ℕ) → s < length t.sets → s < length u.sets
  given_grown s h = omega (arith, h, ap length kept, length-append t.sets more)

  has_grown : (r : LookUp) (es : List Edge) → HasEdges t r es → HasEdges u r es
  has_grown r es h = record {
    named = ap (λ (ss : List (List ℕ)). map (edge_named ss) es) (sym kept) ∙ (named_stay t.sets more es h.targets ∙ (h.named ∙ ap (λ (A : Automaton). edges A r.set r.ask) (sym graph)));
    targets = λ e there. given_grown e.to (h.targets e there);
    order = h.order;
  }

  edges_grown : (s b : ℕ) → s < length t.sets → edges t.graph (set_at t.sets s) (byte_read b) ≡ edges u.graph (set_at u.sets s) (byte_read b)
  edges_grown s b h =
      ap (λ (A : Automaton). edges A (set_at t.sets s) (byte_read b)) (sym graph) ∙ ap (λ (set : List ℕ). edges u.graph set (byte_read b)) (sym (named_grown s h))

  asked_grown : (b s : ℕ) → s < length t.sets → Has t.look_ups (look_up t s (byte_read b)) → Has u.look_ups (look_up u s (byte_read b))
  asked_grown b s h there =
      subst (λ (set : List ℕ). Has u.look_ups (let r : LookUp = record { set = set; ask = byte_read b } in r)) (sym (named_grown s h)) (stay (look_up t s (byte_read b)) there)

  look_up_grown : (b s : ℕ) (group : Edges) → IsLookUp t b s group → IsLookUp u b s group
  look_up_grown b s group r = record {
    given = given_grown s r.given;
    asked = asked_grown b s r.given r.asked;
    by = r.by;
    are = r.are;
    edges = subst (λ (set : List ℕ). HasEdges u (let q : LookUp = record { set = set; ask = byte_read b } in q) r.by) (sym (named_grown s r.given))
        (has_grown (look_up t s (byte_read b)) r.by r.edges);
  }

  look_ups_grown : (b : ℕ) (sets : List ℕ) (groups : List Edges) → AreLookUps t b sets groups → AreLookUps u b sets groups
  look_ups_grown b [] [] r = tt
  look_ups_grown b [] (g ∷ groups) r = absurd r
  look_ups_grown b (s ∷ sets) [] r = absurd r
  look_ups_grown b (s ∷ sets) (g ∷ groups) r = (look_up_grown b s g r.0, look_ups_grown b sets groups r.1)

  entry_grown : (layers : List (List ℕ)) (steps : List KnownStep) (b : ℕ) (sets : List ℕ) (e : Entry) → IsEntry t layers steps b sets e → IsEntry u layers steps b sets e
  entry_grown layers steps b sets Unknown is = tt
  entry_grown layers steps b sets (Glide next) is = record { to = is.to; there = is.there; look_ups = look_ups_grown b sets (handing is.to) is.look_ups; distinct = is.distinct }
  entry_grown layers steps b sets (Run p) (step, at, of) = (step, at, record { look_ups = look_ups_grown b sets step.program.groups of.look_ups; next = of.next })

  pub known_grown : (layers : List (List ℕ)) (entries : Entries) (steps : List KnownStep) → IsKnown t layers entries steps → IsKnown u layers entries steps
  known_grown layers entries steps k = record {
    few = k.few;
    each = λ l b small. entry_grown layers steps b (layer_at layers l) (entry_at entries l b) (k.each l b small);
  }

pub known_read : (t u : Tabled) (sets : List (List ℕ)) (look_ups : List _) (layers : List (List ℕ)) (entries : Entries) (steps : List KnownStep) →
    HasGrown t u sets look_ups → IsKnown t layers entries steps → IsKnown u layers entries steps
known_read t u sets look_ups layers entries steps g k = known_grown t u g.kept.0 g.graph g.kept.1 g.stay layers entries steps k

-- ---- nothing is known

pub known_none : (t : Tabled) (layers : List (List ℕ)) (entries : Entries) (steps : List KnownStep) → length entries.asked.items ≡ 0 →
    ((k b : ℕ) → entry_at entries k b ≡ Unknown) → IsKnown t layers entries steps
known_none t layers entries steps none each = record { few = omega arith; each = λ k b small. subst (IsEntry t layers steps b (layer_at layers k)) (sym (each k b)) tt }

-- ---- one layer more

pub with_keeps : (layers : List (List ℕ)) (s : List ℕ) (k : ℕ) (sets : List ℕ) → slice_get layers k ≡ Some sets → slice_get (with_set layers s) k ≡ Some sets
with_keeps layers s k sets at = by (list_any (bytes_eq s) layers)
  where
    by : (b : Bool) → slice_get (if b then layers else layers ++ s ∷ []) k ≡ Some sets
    by true = at
    by false = get_left layers (s ∷ []) k sets at

with_length : (layers : List (List ℕ)) (s : List ℕ) → length layers ≤ length (with_set layers s)
with_length layers s = by (list_any (bytes_eq s) layers)
  where
    by : (b : Bool) → length layers ≤ length (if b then layers else layers ++ s ∷ [])
    by true = omega arith
    by false = omega (arith, length-append layers (s ∷ []))

with_layer : (layers : List (List ℕ)) (s : List ℕ) (k : ℕ) → k < length layers → layer_at (with_set layers s) k ≡ layer_at layers k
with_layer layers s k h = by (list_any (bytes_eq s) layers)
  where
    by : (b : Bool) → layer_at (if b then layers else layers ++ s ∷ []) k ≡ layer_at layers k
    by true = refl
    by false = get_or_append_left layers (s ∷ []) [] k h

-- there is no entry, or it is one of a layer within
none_or_within : (entries : Entries) (k b : ℕ) → (entry_at entries k b ≡ Unknown) ⊎ (k < length entries.asked.items)
none_or_within entries k b = by (has_entry entries.asked.items k b) refl
  where
    n : Entry
    n = get_or entries.entered.items (entry_place entries.classes.count entries.classes.numbers k b) Unknown

    by : (v : Bool) → has_entry entries.asked.items k b ≡ v → ((if v then n else Unknown) ≡ Unknown) ⊎ (k < length entries.asked.items)
    by false is = inl refl
    by true is = inr (within_asked entries.asked.items k b is)

pub known_layer : (t : Tabled) (layers : List (List ℕ)) (entries : Entries) (steps : List KnownStep) (s : List ℕ) → IsKnown t layers entries steps → IsKnown t (with_set layers s) entries steps
known_layer t layers entries steps s known = record {
  few = omega (arith, known.few, with_length layers s);
  each = λ k b small. elim (none_or_within entries k b) as (λ _. IsEntry t (with_set layers s) steps b (layer_at (with_set layers s) k) (entry_at entries k b)) [
    | inl none ↦ subst (IsEntry t (with_set layers s) steps b (layer_at (with_set layers s) k)) (sym none) tt
    | inr row ↦
        let within : k < length layers = omega (arith, row, known.few) in
        subst (λ (sets : List ℕ). IsEntry t (with_set layers s) steps b sets (entry_at entries k b)) (sym (with_layer layers s k within))
        (still_true b (layer_at layers k) (entry_at entries k b) (known.each k b small))
  ];
}
  where
    still_true : (b : ℕ) (sets : List ℕ) (e : Entry) → IsEntry t layers steps b sets e → IsEntry t (with_set layers s) steps b sets e
    still_true b sets Unknown is = tt
    still_true b sets (Glide next) is = record { to = is.to; there = with_keeps layers s next is.to is.there; look_ups = is.look_ups; distinct = is.distinct }
    still_true b sets (Run p) (step, at, of) = (step, at, record { look_ups = of.look_ups; next = with_keeps layers s step.next step.program.targets of.next })

-- ---- room for more layers

pub known_room : (t : Tabled) (layers : List (List ℕ)) (old new : Entries) (steps : List KnownStep) →
    ((k b : ℕ) → b < 256 → entry_at new k b ≡ entry_at old k b) → length new.asked.items ≤ length layers → IsKnown t layers old steps →
    IsKnown t layers new steps
known_room t layers old new steps same few known = record {
  few = few;
  each = λ k b small. subst (λ e. IsEntry t layers steps b (layer_at layers k) e) (sym (same k b small)) (known.each k b small);
}

-- ---- one step more

pub known_step : (t : Tabled) (layers : List (List ℕ)) (entries : Entries) (steps : List KnownStep) (step : KnownStep) → IsKnown t layers entries steps → IsKnown t layers entries (steps ++ step ∷ [])
known_step t layers entries steps step known = record {
  few = known.few;
  each = λ k b small. still_true b (layer_at layers k) (entry_at entries k b) (known.each k b small);
}
  where
    still_true : (b : ℕ) (sets : List ℕ) (e : Entry) → IsEntry t layers steps b sets e → IsEntry t layers (steps ++ step ∷ []) b sets e
    still_true b sets Unknown is = tt
    still_true b sets (Glide next) is = is
    still_true b sets (Run p) (old, at, of) = (old, get_left steps (step ∷ []) p old at, of)

-- the step that came last
pub entry_last : (t : Tabled) (layers : List (List ℕ)) (steps : List KnownStep) (step : KnownStep) (b : ℕ) (sets : List ℕ) (place : ℕ) → place ≡ length steps →
    AreLookUps t b sets step.program.groups → slice_get layers step.next ≡ Some step.program.targets → IsEntry t layers (steps ++ step ∷ []) b sets (Run place)
entry_last t layers steps step b sets place is look_ups next =
    (step, subst (λ k. slice_get (steps ++ step ∷ []) k ≡ Some step) (sym is) (get_last steps step), record { look_ups = look_ups; next = next })

-- ---- one entry more

pub known_entry : (t : Tabled) (layers : List (List ℕ)) (old new : Entries) (steps : List KnownStep) (layer byte : ℕ) (e : Entry) →
    ((k b : ℕ) → b < 256 → (entry_at new k b ≡ entry_at old k b) ⊎ ((k ≡ layer) × (b ≡ byte) × (entry_at new k b ≡ e))) →
    length new.asked.items ≡ length old.asked.items → IsEntry t layers steps byte (layer_at layers layer) e →
    IsKnown t layers old steps → IsKnown t layers new steps
known_entry t layers old new steps layer byte e entered rows entry known = record {
  few = omega (arith, known.few, rows);
  each = λ k b small. elim (entered k b small) as (λ _. IsEntry t layers steps b (layer_at layers k) (entry_at new k b)) [
    | inl same ↦ subst (λ n. IsEntry t layers steps b (layer_at layers k) n) (sym same) (known.each k b small)
    | inr (row, here, value) ↦
        subst (λ n. IsEntry t layers steps b (layer_at layers k) n) (sym value)
        (subst (λ n. IsEntry t layers steps n (layer_at layers k) e) (sym here) (subst (λ n. IsEntry t layers steps byte (layer_at layers n) e) (sym row) entry))
  ];
}

-- ---- bytes on which sets have the same edges

look_ups_alike : (t : Tabled) (b other : ℕ) (sets : List ℕ) (groups : List Edges) → AreAlike t b other sets → AreLookUps t other sets groups → AreLookUps t b sets groups
look_ups_alike t b other [] [] alike all = tt
look_ups_alike t b other [] (g ∷ groups) alike all = absurd all
look_ups_alike t b other (s ∷ sets) [] alike all = absurd all
look_ups_alike t b other (s ∷ sets) (g ∷ groups) alike all =
    let one = alike s (inl refl) in (
      record {
        given = one.given;
        asked = one.asked;
        by = all.0.by;
        are = all.0.are;
        edges = record { named = all.0.edges.named ∙ sym one.same; targets = all.0.edges.targets; order = all.0.edges.order };
      },
      look_ups_alike t b other sets groups (λ n h. alike n (inr h)) all.1,
    )

pub entry_alike : (t : Tabled) (layers : List (List ℕ)) (steps : List KnownStep) (b other : ℕ) (sets : List ℕ) (e : Entry) → AreAlike t b other sets →
    IsEntry t layers steps other sets e → IsEntry t layers steps b sets e
entry_alike t layers steps b other sets Unknown alike is = tt
entry_alike t layers steps b other sets (Glide next) alike is =
    record { to = is.to; there = is.there; look_ups = look_ups_alike t b other sets (handing is.to) alike is.look_ups; distinct = is.distinct }
entry_alike t layers steps b other sets (Run p) alike (step, at, of) = (step, at, record { look_ups = look_ups_alike t b other sets step.program.groups alike of.look_ups; next = of.next })

-- what `==` says of two edges
pub same_edge : (a b : Edge) → Decides ((a.marks == b.marks) && (a.to == b.to)) (a ≡ b)
same_edge a b = (
  λ yes.
      (let p = and_parts (a.marks == b.marks) (a.to == b.to) yes in λ i. (let e : Edge = record { marks = eqb-true a.marks b.marks p.0 i; to = eqb-true a.to b.to p.1 i } in e)),
  λ same. and_from (a.marks == b.marks) (a.to == b.to) (eq-eqb a.marks b.marks (ap (λ (e : Edge). e.marks) same)) (eq-eqb a.to b.to (ap (λ (e : Edge). e.to) same)),
)

-- a set whose edges on two bytes are equal
pub alike_is : (t : Tabled) (set b other s : ℕ) (es fs : List Edge) → (set < length t.sets) × HasEdges t (look_up t set (byte_read b)) es →
    Has t.look_ups (look_up t set (byte_read b)) → HasEdges t (look_up t set (byte_read other)) fs →
    es ≡ fs → (set ≡ s) ⊎ ⊥ → IsAlike t b other s
alike_is t set b other s es fs has there others same (inr none) = absurd none
alike_is t set b other s es fs has there others same (inl is) =
    subst (λ n. IsAlike t b other n) is
    (record { given = has.0; asked = there; same = sym has.1.named ∙ (ap (map (edge_named t.sets)) same ∙ others.named) })

-- sets that are alike, one after another
pub alike_more : (t : Tabled) (b other : ℕ) (sets : List ℕ) (k x : ℕ) → k < length sets → x ≡ get_or sets k 0 → AreAlike t b other (take k sets) →
    AreAlike t b other (x ∷ []) → AreAlike t b other (take (k + 1) sets)
alike_more t b other sets k x within is all one s h = elim (Has-take_more_cases sets k 0 s within h) as (λ _. IsAlike t b other s) [ inl old ↦ all s old | inr same ↦ one s (inl (is ∙ same)) ]

-- ---- the look-ups of a layer, one after another

pub look_ups_more : (t : Tabled) (b : ℕ) (sets : List ℕ) (groups : List Edges) (s : ℕ) (group : Edges) → AreLookUps t b sets groups →
    IsLookUp t b s group → AreLookUps t b (sets ++ s ∷ []) (groups ++ group ∷ [])
look_ups_more t b [] [] s group all one = (one, tt)
look_ups_more t b [] (g ∷ groups) s group all one = absurd all
look_ups_more t b (r ∷ sets) [] s group all one = absurd all
look_ups_more t b (r ∷ sets) (g ∷ groups) s group all one = (all.0, look_ups_more t b sets groups s group all.1 one)

pub look_ups_length : (t : Tabled) (b : ℕ) (sets : List ℕ) (groups : List Edges) → AreLookUps t b sets groups → length groups ≡ length sets
look_ups_length t b [] [] all = refl
look_ups_length t b [] (g ∷ groups) all = absurd all
look_ups_length t b (s ∷ sets) [] all = absurd all
look_ups_length t b (s ∷ sets) (g ∷ groups) all = ap suc (look_ups_length t b sets groups all.1)

-- ---- sets that hand their cells on, one after another

lone_edge : (es : List Edge) (e : Edge) → length es ≡ 1 → e ≡ get_or es 0 e → es ≡ e ∷ []
lone_edge [] e one first = absurd (omega (arith, one))
lone_edge (x ∷ []) e one first = ap (λ (y : Edge). y ∷ []) (sym first)
lone_edge (x ∷ y ∷ es) e one first = absurd (omega (arith, one))

-- the one edge of a set hands its cell on
pub handed_is : (t : Tabled) (set b : ℕ) (es : List Edge) (e : Edge) → (set < length t.sets) × HasEdges t (look_up t set (byte_read b)) es → Has t.look_ups (look_up t set (byte_read b)) →
    length es ≡ 1 → e ≡ get_or es 0 e → e.marks ≡ 0 → IsLookUp t b set (handing_to e.to)
handed_is t set b es e has asked one first none = record {
  given = has.0;
  asked = asked;
  by = es;
  are = ap edges_of (lone_edge es e one first) ∙ ap (λ m. (m, e.to) ∷ []) none;
  edges = has.1;
}

pub distinct_more : (xs : List ℕ) (x : ℕ) → AreDistinct xs → (Has xs x → ⊥) → AreDistinct (xs ++ x ∷ [])
distinct_more [] x d new = (λ h. h, tt)
distinct_more (y ∷ xs) x d new = (
  λ h. elim (Has-append_cases xs (x ∷ []) y h) as (λ _. ⊥) [ inl old ↦ d.0 old | inr (inl e) ↦ new (inl (sym e)) | inr (inr none) ↦ none ],
  distinct_more xs x d.1 (λ h. new (inr h)),
)

handing_more : (to : List ℕ) (s : ℕ) → handing (to ++ s ∷ []) ≡ handing to ++ handing_to s ∷ []
handing_more [] s = refl
handing_more (x ∷ to) s = ap (λ (gs : List Edges). handing_to x ∷ gs) (handing_more to s)

-- ---- the sets that come next are distinct, and their number is that of the layer

pub handing_length : (to : List ℕ) → length (handing to) ≡ length to
handing_length [] = refl
handing_length (x ∷ to) = ap suc (handing_length to)

-- ---- layers keep their numbers

pub layer_there : (layers : List (List ℕ)) (k : ℕ) → k < length layers → slice_get layers k ≡ Some (layer_at layers k)
layer_there [] k h = absurd (omega arith)
layer_there (x ∷ layers) zero h = refl
layer_there (x ∷ layers) (suc k) h = layer_there layers k (omega arith)

pub layer_is : (layers : List (List ℕ)) (k : ℕ) (sets : List ℕ) → slice_get layers k ≡ Some sets → layer_at layers k ≡ sets
layer_is layers k sets at = same_Some (layer_at layers k) sets (sym (layer_there layers k (slice_get_within layers k sets at)) ∙ at)

pub layer_kept : (old new : List (List ℕ)) (k : ℕ) → ((j : ℕ) (sets : List ℕ) → slice_get old j ≡ Some sets → slice_get new j ≡ Some sets) → k < length old →
    (k < length new) × (layer_at new k ≡ layer_at old k)
layer_kept old new k keeps within =
    let there = keeps k (layer_at old k) (layer_there old k within) in
    (slice_get_within new k (layer_at old k) there, layer_is new k (layer_at old k) there)

-- ---- what an entry says

pub step_is : (steps : List KnownStep) (k : ℕ) (x y : KnownStep) → slice_get steps k ≡ Some x → slice_get steps k ≡ Some y → x ≡ y
step_is steps k x y at there = same_Some x y (sym at ∙ there)

-- ---- the sets of a graph's layer, one after another

pub sets_more : (sets : List ℕ) (k s : ℕ) → slice_get sets k ≡ Some s → take (k + 1) sets ≡ take k sets ++ s ∷ []
sets_more sets k s at = ap (λ n. take n sets) (add-one k) ∙ take_next sets k s at

pub look_ups_next : (t : Tabled) (b : ℕ) (sets : List ℕ) (k : ℕ) (groups later : List Edges) (group : Edges) → k < length sets →
    AreLookUps t b (take k sets) groups → IsLookUp t b (get_or sets k 0) group →
    later ≡ groups ++ group ∷ [] → AreLookUps t b (take (k + 1) sets) later
look_ups_next t b sets k groups later group within all one is =
    subst (λ (gs : List Edges). AreLookUps t b (take (k + 1) sets) gs) (sym is)
    (subst (λ (ss : List ℕ). AreLookUps t b ss (groups ++ group ∷ [])) (sym (take_more sets k 0 within)) (look_ups_more t b (take k sets) groups (get_or sets k 0) group all one))

pub handed_next : (t : Tabled) (b : ℕ) (sets : List ℕ) (k : ℕ) (to later : List ℕ) (next : ℕ) → k < length sets →
    AreLookUps t b (take k sets) (handing to) → IsLookUp t b (get_or sets k 0) (handing_to next) →
    later ≡ to ++ next ∷ [] → AreLookUps t b (take (k + 1) sets) (handing later)
handed_next t b sets k to later next within all one is =
    look_ups_next t b sets k (handing to) (handing later) (handing_to next) within all one (ap handing is ∙ handing_more to next)
