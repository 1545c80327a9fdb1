-- A pass in a layer that is told by its number: its own names, gliding, and running a program.
use Rattle.std.proofs.Common.{◌≡◌, ℕ, ◌+◌, ◌-◌, ◌<◌, ◌≤◌, List, [], ◌∷◌, ◌++◌, length, get_or, slice_get, drop, take, Option, Some, None, IfSome, inl, refl, sym, ap, subst, arith, ◌∙◌}
use Rattle.std.proofs.lemmas.List.{length-map}
use Rattle.std.proofs.lemmas.Option.{slice_get_within}
use Rattle.span_core.specs.Lists.{AreDistinct}
use Rattle.output_graph.specs.declared.planned.Planned.{Planned}
use Rattle.output_graph.specs.Graph.{AreApart, Graph, IsPast, IsPlace, sets_of, sources}
use Rattle.output_graph.specs.Named.{handing, renamed}
use Rattle.output_graph.specs.Planned.{AreRun, IsRunBy}
use Rattle.output_graph.specs.Pools.{program_at}
use Rattle.output_graph.specs.Programs.{IsRun, Steps}
use Rattle.output_graph.specs.Source.{Edges}
use Rattle.output_graph.proofs.NamedLaws.{hand_run, named_length, named_own, named_sets, past_named, renamed_again, run_named}
use Rattle.output_graph.proofs.PlannedLaws.{may_more, run_split, within_more}
use Rattle.set_table.specs.Tabled.{Tabled}
use Rattle.one_pass.specs.declared.known.Known.{Known}
use Rattle.one_pass.specs.declared.pass.Pass.{Pass}
use Rattle.one_pass.specs.declared.search.Search.{Search}
use Rattle.one_pass.specs.Ahead.{KnowsWaiting}
use Rattle.one_pass.specs.Going.{GoesOn, IsAdvanced, PassReads, come}
use Rattle.one_pass.specs.Known.{AreLookUps, IsGlide, IsStepOf, Knows, Stands, layer_at}
use Rattle.one_pass.specs.KnownSteps.{KnownStep, programs_of}
use Rattle.one_pass.specs.Numbered.{IsAhead, IsLed, IsNumbered, StandsIn, as_layer, in_layer, moved_to}
use Rattle.one_pass.specs.Passes.{AllLeadBack}
use Rattle.one_pass.specs.Places.{ReadingPlace, byte_at}
use Rattle.one_pass.proofs.Advancing.{advanced_more, advanced_none, advanced_over}
use Rattle.one_pass.proofs.Faulting.{read_none}
use Rattle.one_pass.proofs.KnownLaws.{handing_length, layer_is, layer_there, look_ups_length}
use Rattle.one_pass.proofs.KnownStepLaws.{program_is, step_there}
use Rattle.one_pass.proofs.Running.{run_reads}

-- ---- its own names

own_names : (sets : List ℕ) (g : Graph) → sets ≡ sets_of g.layer → renamed sets g ≡ g
own_names sets g is =
    ap (λ xs. renamed xs g) is ∙ ap (λ l. let h : Graph = record { cells = g.cells; layer = l; next = g.next; stepped = g.stepped; at = g.at } in h) (named_own g.layer)

-- a layer that has the names of its number
pub own_layer : (t : Tabled) (g : Graph) (known : Known) (k : Option ℕ) → Stands t g known k → in_layer known.layers k g ≡ g
own_layer t g known None stands = refl
own_layer t g known (Some k) stands = own_names (layer_at known.layers k) g (layer_is known.layers k (sets_of g.layer) stands)

pub stands_in : (t : Tabled) (g : Graph) (known : Known) (k : Option ℕ) → AreDistinct (sets_of g.layer) → Stands t g known k → StandsIn t g known k
stands_in t g known None distinct stands = stands
stands_in t g known (Some k) distinct stands =
    let is = layer_is known.layers k (sets_of g.layer) stands in
    record {
      there = slice_get_within known.layers k (sets_of g.layer) stands;
      distinct = subst AreDistinct (sym is) distinct;
      every = ap length is ∙ length-map g.layer (λ (x : ℕ × ℕ). x.0);
    }

pub in_stands : (t : Tabled) (g : Graph) (known : Known) (k : Option ℕ) → StandsIn t g known k → Stands t (in_layer known.layers k g) known k
in_stands t g known None stands = stands
in_stands t g known (Some k) n = layer_there known.layers k n.there ∙ ap Some (sym (named_sets (layer_at known.layers k) g.layer n.every))

pub numbered_if : (t : Tabled) (g : Graph) (known : Known) (k : Option ℕ) → StandsIn t g known k → IfSome k (λ n. IsNumbered g known.layers n)
numbered_if t g known None stands = tt
numbered_if t g known (Some k) n = n

-- once the names are written
pub named_in : (t : Tabled) (g : Graph) (known : Known) (k : Option ℕ) → StandsIn t g known k → StandsIn t (in_layer known.layers k g) known k
named_in t g known None stands = stands
named_in t g known (Some k) n = record { there = n.there; distinct = n.distinct; every = n.every ∙ sym (named_length (layer_at known.layers k) g.layer n.every) }

pub named_twice : (t : Tabled) (g : Graph) (known : Known) (k : Option ℕ) → StandsIn t g known k → in_layer known.layers k (in_layer known.layers k g) ≡ in_layer known.layers k g
named_twice t g known k stands = own_layer t (in_layer known.layers k g) known k (in_stands t g known k stands)

-- the sets of a graph that goes on are distinct
pub sets_distinct : (t : Tabled) (p : Pass) → GoesOn t p → AreDistinct (sets_of p.graph.layer)
sets_distinct t p goes = goes.ready.apart

-- ---- gliding

module _ (t : Tabled) (p : Pass) (k b : ℕ) (goes : GoesOn t (as_layer (Some k) p)) (number : IsNumbered p.graph p.known.layers k) where
  abbrev sets : List ℕ
  sets = layer_at p.known.layers k

  sets_are : sets_of (renamed sets p.graph).layer ≡ sets
  sets_are = named_sets sets p.graph.layer number.every

  pub no_next : p.graph.next ≡ []
  no_next = goes.ready.fresh.1

  module _ (next : ℕ) (glide : IsGlide t p.known.layers b sets next) where
    to_is : layer_at p.known.layers next ≡ glide.to
    to_is = layer_is p.known.layers next glide.to glide.there

    to_many : length glide.to ≡ length p.graph.layer
    to_many = sym (handing_length glide.to) ∙ (look_ups_length t b sets (handing glide.to) glide.look_ups ∙ number.every)

    pub glide_numbered : IsNumbered p.graph p.known.layers next
    glide_numbered = record {
      there = slice_get_within p.known.layers next glide.to glide.there;
      distinct = subst AreDistinct (sym to_is) glide.distinct;
      every = ap length to_is ∙ to_many;
    }

    pub glide_reads : AreApart (sources p.graph) → (n : ℕ) → PassReads (byte_at p.at b ∷ []) t (as_layer (Some k) p) n t (as_layer (Some next) (moved_to p.graph 1 p)) n
    glide_reads apart n =
        let handed = run_named sets (handing glide.to) p.graph (renamed glide.to p.graph) p.at n n number.every
        (hand_run p.graph glide.to p.at n goes.ready.fresh.0 no_next apart glide.distinct to_many) in
        let look_ups = subst (λ xs. AreLookUps t b xs (handing glide.to)) (sym sets_are) glide.look_ups in
        subst (λ xs. PassReads (byte_at p.at b ∷ []) t (as_layer (Some k) p) n t (let q : Pass =
        record { graph = renamed xs p.graph; known = p.known; search = p.search; at = p.at + 1 } in q) n) (sym to_is)
        (run_reads goes (handing glide.to) look_ups handed)

  -- ---- running a program

  pub groups_many : (groups : List Edges) → AreLookUps t b sets groups → length groups ≡ length p.graph.layer
  groups_many groups look_ups = look_ups_length t b sets groups look_ups ∙ number.every

  -- under its own names too, the words are past
  pub place_here : IsPast (sources p.graph) p.at
  place_here =
      let back = past_named (sets_of p.graph.layer) (renamed sets p.graph) p.at goes.ready.fresh.0 goes.ready.past in
      subst (λ g. IsPast (sources g) p.at) (renamed_again sets (sets_of p.graph.layer) p.graph number.every ∙ own_names (sets_of p.graph.layer) p.graph refl) back

  module _ (step : KnownStep) (of : IsStepOf t p.known.layers b sets step) (h : Graph) (n m : ℕ)
      (run : IsRun p.graph p.at step.program.groups (renamed step.program.targets h) n m) (distinct : AreDistinct step.program.targets)
      (long : length step.program.targets ≡ length h.layer) where
    next_is : layer_at p.known.layers step.next ≡ step.program.targets
    next_is = layer_is p.known.layers step.next step.program.targets of.next

    abbrev Reads_so : Pass → Type 0
    Reads_so q = PassReads (byte_at p.at b ∷ []) t (as_layer (Some k) p) n t q m

    run_named_reads : Reads_so (record { graph = renamed step.program.targets h; known = p.known; search = p.search; at = p.at + 1 })
    run_named_reads =
        run_reads goes step.program.groups (subst (λ xs. AreLookUps t b xs step.program.groups) (sym sets_are) of.look_ups)
        (run_named sets step.program.groups p.graph (renamed step.program.targets h) p.at n m number.every run)

    pub run_numbered : IsNumbered h p.known.layers step.next
    run_numbered = record {
      there = slice_get_within p.known.layers step.next step.program.targets of.next;
      distinct = subst AreDistinct (sym next_is) distinct;
      every = ap length next_is ∙ long;
    }

    -- and something else may be searched for
    pub run_numbered_reads : (search : Search) → search.ahead ≡ p.search.ahead → Reads_so (as_layer (Some step.next) (record { graph = h; known = p.known; search = search; at = p.at + 1 }))
    run_numbered_reads search same =
        let done = run_named_reads in
        subst (λ xs. Reads_so (record { graph = renamed xs h; known = p.known; search = search; at = p.at + 1 })) (sym next_is)
        (record {
          read = done.read;
          goes_on =
              record { ready = done.goes_on.ready; known = done.goes_on.known; waits = subst (λ a. KnowsWaiting t.graph.ways a.waiting) (sym same) done.goes_on.waits };
        })

-- ---- bytes of a piece, one after another

module _ {t0 : Tabled} {p0 : Pass} {n0 : ℕ} {bytes : List ℕ} where
  -- none
  pub advanced_start : GoesOn t0 p0 → IsAdvanced t0 p0 n0 bytes 0 t0 p0 n0
  advanced_start goes = record { reads = record { read = read_none t0.graph (come t0 p0 n0); goes_on = goes }; at = omega arith }

-- none, in a layer
advanced_here : {t : Tabled} (k : ℕ) (p : Pass) {n : ℕ} {bytes : List ℕ} → GoesOn t (as_layer (Some k) p) →
    IsAdvanced t (as_layer (Some k) p) n bytes 0 t (as_layer (Some k) (moved_to p.graph 0 p)) n
advanced_here {t} k p {n} {bytes} goes =
    let same : p.at ≡ p.at + 0 = omega arith in
    subst (λ a. IsAdvanced t (as_layer (Some k) p) n bytes 0 t (as_layer (Some k) (record { graph = p.graph; known = p.known; search = p.search; at = a })) n) same
    (advanced_start {n0 = n} {bytes = bytes} goes)

-- one byte more
advanced_by : {t : Tabled} {q : Pass} {bytes : List ℕ} (p : Pass) (g h : Graph) (k next : ℕ) {j n c m : ℕ} → IsAdvanced t q n bytes j t (as_layer (Some k) (moved_to g j p)) c → j < length bytes →
    PassReads (byte_at (p.at + j) (get_or bytes j 0) ∷ []) t (as_layer (Some k) (moved_to g j p)) c t
    (as_layer (Some next) (record { graph = h; known = p.known; search = p.search; at = p.at + j + 1 })) m →
    IsAdvanced t q n bytes (j + 1) t (as_layer (Some next) (moved_to h (j + 1) p)) m
advanced_by {t} {q} {bytes} p g h k next {j} {n} {c} {m} past within one =
    let same : p.at + j + 1 ≡ p.at + (j + 1) = omega arith in
    subst (λ a. IsAdvanced t q n bytes (j + 1) t (as_layer (Some next) (record { graph = h; known = p.known; search = p.search; at = a })) m) same
    (advanced_more past within one (omega arith))

-- ---- looking ahead

module _ {bytes : List ℕ} {t : Tabled} {k : ℕ} {p : Pass} where
  pub ahead_none : GoesOn t (as_layer (Some k) p) → IsNumbered p.graph p.known.layers k → AreApart (sources p.graph) → IsAhead bytes t k p [] k 0
  ahead_none goes number apart = record {
    there = number.there;
    within = tt;
    may = λ n. tt;
    led = λ g n m run.
        subst (λ c. IsLed bytes t k p n g k 0 c) run.1 (subst (λ f. IsLed bytes t k p n f k 0 n) run.0 (record { advanced = advanced_here k p goes; stands = number; apart = apart }));
  }

  module _ {plan : List Planned} {next j : ℕ} (ahead : IsAhead bytes t k p plan next j) (left : j < length bytes) where
    abbrev byte : ℕ
    byte = get_or bytes j 0

    -- cells are handed on
    pub ahead_glides : (to : ℕ) → IsGlide t p.known.layers byte (layer_at p.known.layers next) to → IsAhead bytes t k p plan to (j + 1)
    ahead_glides to glide = record {
      there = slice_get_within p.known.layers to glide.to glide.there;
      within = ahead.within;
      may = ahead.may;
      led = λ g n m run.
          let l = ahead.led g n m run in
          let q : Pass = moved_to g j p in
          let goes = l.advanced.reads.goes_on in
          record {
            advanced = advanced_by p g g next to l.advanced left (glide_reads t q next byte goes l.stands to glide l.apart m);
            stands = glide_numbered t q next byte goes l.stands to glide;
            apart = l.apart;
          };
    }

    -- a program is to be run
    module _ (x : Planned) (here : x.at ≡ p.at + j) (step : KnownStep) (there : slice_get p.known.steps x.program ≡ Some step)
        (of : IsStepOf t p.known.layers byte (layer_at p.known.layers next) step) where
      program_so : program_at (programs_of p.known.steps) x.program ≡ step.program
      program_so = program_is p.known.steps x.program ∙ ap (λ (s : KnownStep). s.program) (step_there p.known.steps x.program step there)

      may_here : (n : ℕ) (g : Graph) (m : ℕ) → AreRun (programs_of p.known.steps) plan p.graph g n m →
          (length (program_at (programs_of p.known.steps) x.program).groups ≡ length g.layer) × IsPlace g x.at
      may_here n g m run =
          let l = ahead.led g n m run in
          let q : Pass = moved_to g j p in
          let goes = l.advanced.reads.goes_on in
          let past = subst (λ a. IsPast (sources g) a) (sym here) (place_here t q next byte goes l.stands) in
          (ap (λ (s : Steps). length s.groups) program_so ∙ groups_many t q next byte goes l.stands step.program.groups of.look_ups, inl (goes.ready.fresh.0, past))

      led_here : (g : Graph) (n m : ℕ) → AreRun (programs_of p.known.steps) (plan ++ x ∷ []) p.graph g n m → IsLed bytes t k p n g step.next (j + 1) m
      led_here g n m run =
          let s = run_split (programs_of p.known.steps) plan x p.graph g n m run in
          let l = ahead.led s.0 n s.1 s.2 in
          let q : Pass = moved_to s.0 j p in
          let goes = l.advanced.reads.goes_on in
          let so = subst (λ (a : ℕ). IsRunBy (program_at (programs_of p.known.steps) x.program) a s.0 g s.1 m) here s.3 in
          let last = subst (λ (f : Steps). IsRunBy f (p.at + j) s.0 g s.1 m) program_so so in
          record {
            advanced = advanced_by p s.0 g next step.next l.advanced left (run_numbered_reads t q next byte goes l.stands step of g s.1 m last.run last.distinct last.long p.search refl);
            stands = run_numbered t q next byte goes l.stands step of g s.1 m last.run last.distinct last.long;
            apart = last.apart;
          }

      pub ahead_runs : IsAhead bytes t k p (plan ++ x ∷ []) step.next (j + 1)
      ahead_runs =
          let within = slice_get_within p.known.steps x.program step there in
          let many = length-map p.known.steps (λ (s : KnownStep). s.program) in
          record {
            there = slice_get_within p.known.layers step.next step.program.targets of.next;
            within = within_more _ plan x ahead.within (omega arith);
            may = λ n. may_more (programs_of p.known.steps) plan x p.graph n (ahead.may n) (may_here n);
            led = led_here;
          }

-- ---- names and searches

pub same_pass : (p q : Pass) → p.graph ≡ q.graph → p.known ≡ q.known → p.search ≡ q.search → p.at ≡ q.at → p ≡ q
same_pass p q g k s a = λ i. (let r : Pass = record { graph = g i; known = k i; search = s i; at = a i } in r)

-- where the same bytes are passed over, in the layer
pub read_over : {t0 : Tabled} {p0 : Pass} {n0 : ℕ} {piece : List ℕ} {i j : ℕ} {t : Tabled} (k : Option ℕ) (p q : Pass) {n : ℕ} →
    IsAdvanced t0 p0 n0 piece i t (as_layer k p) n → i ≤ j → j ≤ length piece →
    AllLeadBack t (in_layer p.known.layers k p.graph) (take (j - i) (drop i piece)) → in_layer p.known.layers k q.graph ≡ in_layer p.known.layers k p.graph → q.known ≡ p.known → q.at + i ≡ p.at + j →
    KnowsWaiting t.graph.ways q.search.ahead.waiting → IsAdvanced t0 p0 n0 piece j t (as_layer k q) n
read_over k p q past later within back graph known at waits =
    advanced_over {p = as_layer k p} {q = as_layer k q} past later within back (ap (λ (x : Known). in_layer x.layers k q.graph) known ∙ graph) known at waits

-- before the first byte, with what is known of the layer
pub start_in : {t : Tabled} {p : Pass} {n : ℕ} {piece : List ℕ} {known : Known} {search : Search} (k : Option ℕ) → GoesOn t p → Knows t known →
    KnowsWaiting t.graph.ways search.ahead.waiting → Stands t p.graph known k →
    IsAdvanced t p n piece 0 t (as_layer k (record { graph = p.graph; known = known; search = search; at = p.at })) n
start_in {t} {p} {n} {piece} {known} {search} k goes knows waits stands =
    subst (λ graph. IsAdvanced t p n piece 0 t (let q : Pass = record { graph = graph; known = known; search = search; at = p.at } in q) n)
    (sym (own_layer t p.graph known k stands)) (advanced_none goes knows waits)

-- where the names are written, and something else may be searched for
pub named_reads : {ps : List ReadingPlace} {t u : Tabled} {p q : Pass} {n m : ℕ} (k : Option ℕ) (search : Search) → search.ahead ≡ q.search.ahead →
    Stands u q.graph q.known k → PassReads ps t p n u q m →
    PassReads ps t p n u (as_layer k (record { graph = q.graph; known = q.known; search = search; at = q.at })) m
named_reads {ps} {t} {u} {p} {q} {n} {m} k search same stands done =
    subst (λ graph. PassReads ps t p n u (let r : Pass = record { graph = graph; known = q.known; search = search; at = q.at } in r) m) (sym (own_layer u q.graph q.known k stands))
    (record { read = done.read; goes_on = record { ready = done.goes_on.ready; known = done.goes_on.known; waits = subst (λ a. KnowsWaiting u.graph.ways a.waiting) (sym same) done.goes_on.waits } })

-- the search with another number of bytes for which the layer counts as unchanged
abbrev pub with_quiet : Search → ℕ → Search
with_quiet s quiet =
    record { skipper = s.skipper; ahead = s.ahead; quiet = quiet; far = s.far; waits = s.waits; later = s.later; fresh = s.fresh }

-- something else may be searched for
pub searched : {t0 t : Tabled} {p0 : Pass} {n0 n : ℕ} {bytes : List ℕ} {j : ℕ} (k : Option ℕ) (p : Pass) (search : Search) →
    search.ahead ≡ p.search.ahead → IsAdvanced t0 p0 n0 bytes j t (as_layer k p) n →
    IsAdvanced t0 p0 n0 bytes j t (as_layer k (record { graph = p.graph; known = p.known; search = search; at = p.at })) n
searched {t = t} k p search same past = record {
  reads = record {
    read = past.reads.read;
    goes_on = record {
      ready = past.reads.goes_on.ready;
      known = past.reads.goes_on.known;
      waits =
          subst (λ a. KnowsWaiting t.graph.ways a.waiting) (sym same) past.reads.goes_on.waits;
    };
  };
  at = past.at;
}

-- from a pass that is the same
pub from_same : {t u : Tabled} {p r q : Pass} {b n m : ℕ} → r ≡ p → PassReads (byte_at r.at b ∷ []) t r n u q m → PassReads (byte_at p.at b ∷ []) t p n u q m
from_same {t} {u} {p} {r} {q} {b} {n} {m} same done = subst (λ (x : Pass). PassReads (byte_at x.at b ∷ []) t x n u q m) same done
