-- Codes: what they do on symbols, they do on cells.
use Rattle.std.proofs.Common.{◌≡◌, ℕ, zero, suc, ◌+◌, ◌-◌, ◌<◌, ◌≤◌, List, [], ◌∷◌, ◌++◌, set, take, drop, length, Option, Some, None, IfSome, refl, sym, ap, ◌∙◌, subst, arith, get_or, slice_get, length-append, add-one}
use Rattle.std.proofs.lemmas.List.{drop_all, take-append-drop}
use Rattle.std.proofs.lemmas.Option.{slice_get_within, same_Some, slice_get-get_or}
use Rattle.node_arena.specs.Cells.{HasCell, Holds, NamedLink, hold, less_hold, new_link, with_hold}
use Rattle.node_arena.specs.Release.{Released}
use Rattle.output_graph.specs.declared.code.Instruction.{Instruction}
use Rattle.output_graph.specs.declared.code.Instruction.TheVariants.{Create, Free, Shift}
use Rattle.output_graph.specs.declared.code.Making.{Making}
use Rattle.output_graph.specs.declared.code.Shifting.{Shifting}
use Rattle.output_graph.specs.declared.program.Action.{Action}
use Rattle.output_graph.specs.declared.program.Action.TheVariants.{Make, Release}
use Rattle.output_graph.specs.declared.program.Link.{Link}
use Rattle.output_graph.specs.declared.program.Plan.{Plan}
use Rattle.output_graph.specs.declared.program.Register.{Register}
use Rattle.output_graph.specs.declared.program.Register.TheVariants.{Kept, Made}
use Rattle.output_graph.specs.Codes.{DoesAll, IsAlso, IsMaking, first_symbols}
use Rattle.output_graph.specs.Forward.{Layer}
use Rattle.output_graph.specs.Graph.{Graph, sets_of}
use Rattle.output_graph.specs.Named.{named}
use Rattle.output_graph.specs.Plans.{put}
use Rattle.output_graph.specs.Running.{AreHeld, HasCome, HasRun, Leads, Point, Runs, also_in, cell_at, cell_in, point, with_cell}
use Rattle.output_graph.specs.Sets.{cells_in}
use Rattle.output_graph.proofs.HeldLaws.{cell_there, held_length, held_more, held_snoc, made_there, take_next}
use Rattle.output_graph.proofs.SetLaws.{take_all}

-- ---- registers

pub with_within : (registers : Layer) (r c : ℕ) (p : ℕ × ℕ) → slice_get registers r ≡ Some p → with_cell registers r c ≡ set registers r (p.0, c)
with_within [] r c p e = cc
with_within (q ∷ registers) zero c p e = ap (λ (x : ℕ × ℕ). (x.0, c) ∷ registers) (same_Some q p e)
with_within (q ∷ registers) (suc r) c p e = ap (λ (l : Layer). q ∷ l) (with_within registers r c p e)

pub with_behind : (registers : Layer) (r c : ℕ) → length registers ≤ r → with_cell registers r c ≡ registers ++ (0, c) ∷ []
with_behind [] r c h = refl
with_behind (q ∷ registers) zero c h = absurd (omega arith)
with_behind (q ∷ registers) (suc r) c h = ap (λ (l : Layer). q ∷ l) (with_behind registers r c (omega arith))

pub with_names : (registers : Layer) (r c n : ℕ) → n ≤ length registers → take n (sets_of (with_cell registers r c)) ≡ take n (sets_of registers)
with_names registers r c zero h = none (sets_of (with_cell registers r c)) ∙ sym (none (sets_of registers))
  where
    none : (xs : List ℕ) → take 0 xs ≡ []
    none [] = refl
    none (x ∷ xs) = refl
with_names [] r c (suc n) h = absurd (omega arith)
with_names (q ∷ registers) zero c (suc n) h = refl
with_names (q ∷ registers) (suc r) c (suc n) h = ap (λ xs. q.0 ∷ xs) (with_names registers r c n (omega arith))

pub with_longer : (registers : Layer) (r c : ℕ) → length registers ≤ length (with_cell registers r c)
with_longer [] r c = omega arith
with_longer (q ∷ registers) zero c = omega arith
with_longer (q ∷ registers) (suc r) c = omega (arith, with_longer registers r c)

pub named_take : (sets : List ℕ) (registers : Layer) → named sets (take (length sets) registers) ≡ named sets registers
named_take [] registers = refl
named_take (s ∷ sets) [] = refl
named_take (s ∷ sets) (p ∷ registers) = ap (λ (l : Layer). (s, p.1) ∷ l) (named_take sets registers)

pub sets_take : (n : ℕ) (registers : Layer) → sets_of (take n registers) ≡ take n (sets_of registers)
sets_take zero [] = refl
sets_take zero (p ∷ registers) = refl
sets_take (suc n) [] = refl
sets_take (suc n) (p ∷ registers) = ap (λ xs. p.0 ∷ xs) (sets_take n registers)

-- ---- symbols and cells

pub symbol_cell : (sources : Layer) (made : List ℕ) (symbols : List Register) (registers : Layer) (r : ℕ) (x : Register) → AreHeld sources made symbols registers → slice_get symbols r ≡ Some x →
    slice_get (cells_in registers) r ≡ cell_in sources made x
symbol_cell sources made [] registers r x are e = cc
symbol_cell sources made (y ∷ symbols) [] r x are e = absurd are
symbol_cell sources made (y ∷ symbols) (p ∷ registers) zero x are e = sym are.0 ∙ ap (λ (z : Register). cell_in sources made z) (same_Some y x e)
symbol_cell sources made (y ∷ symbols) (p ∷ registers) (suc r) x are e = symbol_cell sources made symbols registers r x are.1 e

pub symbol_within : (sources : Layer) (made : List ℕ) (symbols : List Register) (registers : Layer) (r : ℕ) (x : Register) →
    AreHeld sources made symbols registers → slice_get symbols r ≡ Some x → r < length registers
symbol_within sources made symbols registers r x are e = omega (arith, held_length sources made symbols registers are, slice_get_within symbols r x e)

pub also_within : (sources : Layer) (made : List ℕ) (symbols : List Register) (registers : Layer) (also : Option ℕ) (wanted : Option Register) →
    AreHeld sources made symbols registers → IsAlso symbols also wanted →
    IfSome also (λ r. r < length registers)
also_within sources made symbols registers None wanted are is = tt
also_within sources made symbols registers (Some r) wanted are is = symbol_within sources made symbols registers r is.0 are is.1

pub also_same : (sources : Layer) (made : List ℕ) (symbols : List Register) (registers : Layer) (also : Option ℕ) (wanted : Option Register) →
    AreHeld sources made symbols registers → IsAlso symbols also wanted →
    cell_at registers also ≡ also_in sources made wanted
also_same sources made symbols registers None wanted are is = ap (λ (o : Option Register). also_in sources made o) (sym is)
also_same sources made symbols registers (Some r) wanted are is =
    symbol_cell sources made symbols registers r is.0 are is.1 ∙ ap (λ (o : Option Register). also_in sources made o) (sym is.2)

pub held_with : (sources : Layer) (made : List ℕ) (symbols : List Register) (registers : Layer) (r c : ℕ) (x : Register) → AreHeld sources made symbols registers → cell_in sources made x ≡ Some c →
    AreHeld sources made (put symbols r x) (with_cell registers r c)
held_with sources made [] [] r c x are e = (e, tt)
held_with sources made [] (p ∷ registers) r c x are e = absurd are
held_with sources made (y ∷ symbols) [] r c x are e = absurd are
held_with sources made (y ∷ symbols) (p ∷ registers) zero c x are e = (e, are.1)
held_with sources made (y ∷ symbols) (p ∷ registers) (suc r) c x are e = (are.0, held_with sources made symbols registers r c x are.1 e)

pub first_held : (sources : Layer) (k : ℕ) → k ≤ length sources → AreHeld sources [] (first_symbols k) (take k sources)
first_held sources zero h = subst (λ (l : Layer). AreHeld sources [] [] l) (sym (none sources)) tt
  where
    none : (l : Layer) → take 0 l ≡ []
    none [] = refl
    none (p ∷ l) = refl
first_held sources (suc k) h =
    let p : ℕ × ℕ = get_or sources k (0, 0) in
    let there : slice_get sources k ≡ Some p = slice_get-get_or sources k (0, 0) (omega arith) in
    subst (λ (l : Layer). AreHeld sources [] (first_symbols k ++ Kept k ∷ []) l) (sym (take_next sources k p there))
    (held_snoc sources [] (first_symbols k) (take k sources) (Kept k) p (first_held sources k (omega arith)) (cell_there sources k p there))

-- ---- instructions

pub drop_head : {A : Type 0} (xs : List A) (i : ℕ) (a : A) → i < length xs → a ≡ get_or xs i a → drop i xs ≡ a ∷ drop (suc i) xs
drop_head [] i a h e = absurd (omega arith)
drop_head {A = A} (x ∷ xs) zero a h e = ap (λ (y : A). y ∷ xs) (sym e) ∙ ap (λ (ys : List A). a ∷ ys) (none xs)
  where
    none : (ys : List A) → ys ≡ drop 0 ys
    none [] = refl
    none (y ∷ ys) = refl
drop_head (x ∷ xs) (suc i) a h e = drop_head xs i a (omega arith) e

-- this code is left from instruction i on, and what it does leads on
pub record IsRunning (sources : Layer) (at : ℕ) (Then : Point → Type 0) (code : List Instruction) (i : ℕ) (held : List Register) (registers : Layer)
    (cells : List NamedLink) (holds : Holds) (now : ℕ) : Type 0 where
  pub symbols : List Register
  pub left : List Action
  pub made : List ℕ
  pub are : AreHeld sources made symbols registers
  pub does : DoesAll symbols (length made) (drop i code) left held
  pub leads : Leads sources at Then left (point made cells holds now)

-- instruction i, which is next
module _ {sources : Layer} {at : ℕ} {Then : Point → Type 0} {code : List Instruction} {i : ℕ} {held : List Register} {registers : Layer} {cells : List NamedLink} {holds : Holds} {now : ℕ}
    (run : IsRunning sources at Then code i held registers cells holds now) {a : Instruction} (within : i < length code) (item : a ≡ get_or code i a) where
  head_does : (b : Instruction) → a ≡ b → DoesAll run.symbols (length run.made) (b ∷ drop (i + 1) code) run.left held
  head_does b is =
      let next : drop i code ≡ b ∷ drop (i + 1) code = drop_head code i a within item ∙ (λ j. is j ∷ drop (sym (add-one i) j) code) in
      subst (λ (xs : List Instruction). DoesAll run.symbols (length run.made) xs run.left held) next run.does

  module _ {m : Making} (is : a ≡ Create m) where
    abbrev does : DoesAll run.symbols (length run.made) (Create m ∷ drop (i + 1) code) run.left held
    does = head_does (Create m) is

    abbrev link : Link
    link = does.0

    making : IsMaking run.symbols m link
    making = does.3

    led : Leads sources at Then (Make link ∷ does.1) (point run.made cells holds now)
    led = subst (λ (xs : List Action). Leads sources at Then xs (point run.made cells holds now)) does.2 run.leads

    pub create_from : m.from < length registers
    create_from = symbol_within sources run.made run.symbols registers m.from (Kept link.from) run.are making.from

    pub create_also : IfSome m.also (λ r. r < length registers)
    create_also = also_within sources run.made run.symbols registers m.also link.also run.are making.also

    module _ {c : ℕ} (from : slice_get (cells_in registers) m.from ≡ Some c) {o : Option ℕ} (also : o ≡ cell_at registers m.also) where
      from_is : led.0 ≡ c
      from_is = same_Some led.0 c (sym led.1 ∙ (sym (symbol_cell sources run.made run.symbols registers m.from (Kept link.from) run.are making.from) ∙ from))

      also_is : also_in sources run.made link.also ≡ o
      also_is = sym (also ∙ also_same sources run.made run.symbols registers m.also link.also run.are making.also)

      pub create_there : HasCell cells c
      create_there = subst (HasCell cells) from_is led.2

      pub create_ready : IfSome o (λ b. (hold holds b ≡ 1) × (b ≡ c → ⊥))
      create_ready =
          subst (λ (x : Option ℕ). IfSome x (λ b. (hold holds b ≡ 1) × (b ≡ c → ⊥))) also_is
          (subst (λ (n : ℕ). IfSome (also_in sources run.made link.also) (λ b. (hold holds b ≡ 1) × (b ≡ n → ⊥))) from_is led.4)

      pub create_next : (name : ℕ) → (HasCell cells name → ⊥) → {after : Layer} {cells_after : List NamedLink} {holds_after : Holds} {later : ℕ} → after ≡ with_cell registers m.to name →
          cells_after ≡ new_link name at m.marks c o ∷ cells → holds_after ≡ with_hold (less_hold holds o) name 1 → later ≡ now + 1 →
          IsRunning sources at Then code (i + 1) held after cells_after holds_after later
      create_next name fresh {cells_after = cells_after} {holds_after = holds_after} after_is cells_is holds_is later_is =
          let more : List ℕ = run.made ++ name ∷ [] in
          let b : Option ℕ = also_in sources run.made link.also in
          let long : suc (length run.made) ≡ length more = omega (arith, length-append run.made (name ∷ [])) in
          let cells_same : new_link name at link.marks led.0 b ∷ cells ≡ cells_after =
          ap (λ n. new_link name at n led.0 b ∷ cells) (sym making.marks)
          ∙ (ap (λ n. new_link name at m.marks n b ∷ cells) from_is ∙ (ap (λ (x : Option ℕ). new_link name at m.marks c x ∷ cells) also_is ∙ sym cells_is)) in
          let holds_same : with_hold (less_hold holds b) name 1 ≡ holds_after = ap (λ (x : Option ℕ). with_hold (less_hold holds x) name 1) also_is ∙ sym holds_is in
          record {
            symbols = put run.symbols m.to (Made (length run.made));
            left = does.1;
            made = more;
            are = subst (λ (l : Layer). AreHeld sources more (put run.symbols m.to (Made (length run.made))) l) (sym after_is)
                (held_with sources more run.symbols registers m.to name (Made (length run.made))
                (held_more sources run.made name run.symbols registers run.are) (made_there run.made name (length run.made) refl));
            does = subst (λ n. DoesAll (put run.symbols m.to (Made (length run.made))) n (drop (i + 1) code) does.1 held) long does.4;
            leads = subst (λ (t : Point). Leads sources at Then does.1 t) (λ j. point more (cells_same j) (holds_same j) (sym later_is j)) (led.5 name fresh);
          }

  module _ {r : ℕ} (is : a ≡ Free r) where
    abbrev done : DoesAll run.symbols (length run.made) (Free r ∷ drop (i + 1) code) run.left held
    done = head_does (Free r) is

    freed : Leads sources at Then (Release done.0 ∷ done.1) (point run.made cells holds now)
    freed = subst (λ (xs : List Action). Leads sources at Then xs (point run.made cells holds now)) done.2 run.leads

    pub free_within : r < length registers
    free_within = symbol_within sources run.made run.symbols registers r (Kept done.0) run.are done.3

    module _ {c : ℕ} (from : slice_get (cells_in registers) r ≡ Some c) where
      freed_is : freed.0 ≡ c
      freed_is = same_Some freed.0 c (sym freed.1 ∙ (sym (symbol_cell sources run.made run.symbols registers r (Kept done.0) run.are done.3) ∙ from))

      pub free_held : 0 < hold holds c
      free_held = subst (λ n. 0 < hold holds n) freed_is freed.2

      pub free_next : {cells_after : List NamedLink} {holds_after : Holds} {later : ℕ} → holds_after ≡ with_hold holds c (hold holds c - 1) → Released holds_after cells cells_after →
          now < later → later + length cells_after ≤ now + 1 + length cells → IsRunning sources at Then code (i + 1) held registers cells_after holds_after later
      free_next {cells_after = cells_after} {holds_after = holds_after} {later = later} holds_is released lt le =
          let same : holds_after ≡ with_hold holds freed.0 (hold holds freed.0 - 1) = holds_is ∙ ap (λ n. with_hold holds n (hold holds n - 1)) (sym freed_is) in
          record {
            symbols = run.symbols;
            left = done.1;
            made = run.made;
            are = run.are;
            does = done.4;
            leads = subst (λ (h : Holds). Leads sources at Then done.1 (point run.made cells_after h later)) (sym same)
                (freed.3 cells_after later (subst (λ (h : Holds). Released h cells cells_after) same released) lt le);
          }

  module _ {m : Shifting} (is : a ≡ Shift m) where
    abbrev moves : DoesAll run.symbols (length run.made) (Shift m ∷ drop (i + 1) code) run.left held
    moves = head_does (Shift m) is

    pub shift_within : m.from < length registers
    shift_within = symbol_within sources run.made run.symbols registers m.from moves.0 run.are moves.1

    pub shift_next : {c : ℕ} → slice_get (cells_in registers) m.from ≡ Some c → {after : Layer} → after ≡ with_cell registers m.to c →
        IsRunning sources at Then code (i + 1) held after cells holds now
    shift_next {c = c} from after_is = record {
      symbols = put run.symbols m.to moves.0;
      left = run.left;
      made = run.made;
      are = rw after_is (held_with sources run.made run.symbols registers m.to c moves.0 run.are
          (sym (symbol_cell sources run.made run.symbols registers m.from moves.0 run.are moves.1) ∙ from));
      does = moves.2;
      leads = run.leads;
    }

-- ---- the checker

pub does_head : (symbols : List Register) (made : ℕ) (actions : List Action) (held : List Register) (code : List Instruction) (i : ℕ) (a : Instruction) → i < length code → a ≡ get_or code i a →
    DoesAll symbols made (a ∷ drop (i + 1) code) actions held → DoesAll symbols made (drop i code) actions held
does_head symbols made actions held code i a h item does =
    subst (λ (xs : List Instruction). DoesAll symbols made xs actions held) (sym (drop_head code i a h item)) (subst (λ n. DoesAll symbols made (a ∷ drop n code) actions held) (add-one i) does)

pub does_end : (symbols : List Register) (made : ℕ) (held : List Register) (code : List Instruction) (i : ℕ) (actions : List Action) (j : ℕ) → length code ≤ i → length actions ≤ j →
    (rest : List Register) × (symbols ≡ held ++ rest) → DoesAll symbols made (drop i code) (drop j actions) held
does_end symbols made held code i actions j all done is =
    subst (λ (xs : List Instruction). DoesAll symbols made xs (drop j actions) held) (sym (drop_all i code all)) (drop_all j actions done, is)

-- an action that is there comes next
pub action_next : (actions : List Action) (j : ℕ) (a : Action) → slice_get actions j ≡ Some a → drop j actions ≡ a ∷ drop (suc j) actions
action_next [] j a e = cc
action_next (x ∷ actions) zero a e = ap (λ (y : Action). y ∷ actions) (same_Some x a e)
action_next (x ∷ actions) (suc j) a e = action_next actions j a e

pub symbols_begin : (symbols held : List Register) (k : ℕ) → length held ≤ k → take k symbols ≡ take k held → (rest : List Register) × (symbols ≡ held ++ rest)
symbols_begin symbols held k all same = (drop k symbols, sym (take-append-drop k symbols) ∙ ap (λ (xs : List Register). xs ++ drop k symbols) (same ∙ take_all held k all))

-- ---- the first instruction, and the last

pub first_all : (sources : Layer) (n : ℕ) → n ≡ length sources → AreHeld sources [] (first_symbols n) sources
first_all sources n e = subst (λ (l : Layer). AreHeld sources [] (first_symbols n) l) (take_all sources n (omega (arith, e))) (first_held sources n (omega (arith, e)))

pub own_sets : (registers : Layer) → take (length registers) (sets_of registers) ≡ sets_of registers
own_sets [] = refl
own_sets (p ∷ registers) = ap (λ xs. p.0 ∷ xs) (own_sets registers)

pub come_end : (first : Graph) (at : ℕ) (p : Plan) (before : ℕ) {code : List Instruction} {i : ℕ} {registers : Layer} {cells : List NamedLink} {holds : Holds} {now after : ℕ} →
    IsRunning first.layer at (Runs first at p before) code i p.held.items registers cells holds now → length code ≤ i →
    after ≡ now + length p.counts.items → HasCome first at p before registers cells holds after
come_end first at p before {code} {i} {registers} {cells} {holds} {now} run all later =
    let does : DoesAll run.symbols (length run.made) [] run.left p.held.items =
    subst (λ (xs : List Instruction). DoesAll run.symbols (length run.made) xs run.left p.held.items) (drop_all i code all) run.does in
    let done : HasRun first at p before run.made cells holds (now + length p.counts.items) =
    subst (λ (xs : List Action). Leads first.layer at (Runs first at p before) xs (point run.made cells holds now)) does.0 run.leads in
    record {
      made = run.made;
      run = subst (λ n. HasRun first at p before run.made cells holds n) (sym later) done;
      rest = does.1.0;
      held = subst (λ (xs : List Register). AreHeld first.layer run.made xs registers) does.1.1 run.are;
    }
