-- An automaton that reduces another.
--   A way is named by its place in the list of ways. `f` gives the state of A that some states of B stand for,
--   `g` the way of A that some ways of B stand for. `e b` gives each end of the image of b an end of b of its own.
use Rattle.std.specs.Prelude.{◌≡◌, ℕ, zero, suc, ◌<◌, ◌↔◌, slice_get, nat_lt, if◌then◌else◌, Some, None, Option}
use Rattle.span_core.specs.Lists.{Has}
use Rattle.marked_automaton.specs.declared.way.Way.{Way}
use Rattle.marked_automaton.specs.declared.way.Stop.{Stop}
use Rattle.marked_automaton.specs.Automaton.{Automaton, Marked, HasByte}

-- a state that a walk of so many ways, whatever they take, leads to from a start
abbrev pub IsReachedIn : Automaton → ℕ → ℕ → Type 0
IsReachedIn A zero p = Has A.starts p
IsReachedIn A (suc n) p = (y : Way) × Has A.ways y × IsReachedIn A n y.from × (y.to ≡ p)

abbrev pub IsReached : Automaton → ℕ → Type 0
IsReached A p = (n : ℕ) × IsReachedIn A n p

abbrev pub HasEnd : Automaton → ℕ → ℕ → Type 0
HasEnd A p m = Has A.stops (record { state = p; marks = m })

-- the map gives it something
abbrev pub Knows : (ℕ → Option ℕ) → ℕ → Type 0
Knows f b = (a : ℕ) × (f b ≡ Some a)

pub record IsReduct (A B : Automaton) (f g : ℕ → Option ℕ) (e : ℕ → ℕ → ℕ) : Type 0 where
  -- f goes from states of B onto those of A
  pub from_states : (b : ℕ) → Knows f b → b < B.states
  pub to_states : (b a : ℕ) → f b ≡ Some a → a < A.states
  pub onto : (a : ℕ) → a < A.states → (b : ℕ) × (f b ≡ Some a)
  -- the starts of A are the images of those of B
  pub starts_there : (b a : ℕ) → Has B.starts b → f b ≡ Some a → Has A.starts a
  pub starts_back : (a : ℕ) → Has A.starts a → (b : ℕ) × Has B.starts b × (f b ≡ Some a)
  -- what is reached, and leads to an end by states that f knows, f knows
  pub knows_ends : (b m : ℕ) → IsReached B b → HasEnd B b m → Knows f b
  pub knows_before : (y : Way) → Has B.ways y → IsReached B y.from → Knows f y.to → Knows f y.from
  -- g knows the ways between states that f knows, and keeps what they are
  pub ways_known : (k : ℕ) (y : Way) → slice_get B.ways k ≡ Some y → Knows g k ↔ (Knows f y.from × Knows f y.to)
  pub ways_there : (k : ℕ) (y : Way) (h : ℕ) → slice_get B.ways k ≡ Some y → g k ≡ Some h →
      (x : Way) × (slice_get A.ways h ≡ Some x) × (x.marks ≡ y.marks) × (f y.from ≡ Some x.from) × (f y.to ≡ Some x.to)
      × ((c : ℕ) → HasByte y.bytes c → HasByte x.bytes c)
  -- a way from an image, on one of its bytes, is the image of a way from there
  pub ways_back : (b h c : ℕ) (x : Way) → slice_get A.ways h ≡ Some x → f b ≡ Some x.from → HasByte x.bytes c →
      (k : ℕ) × (y : Way) × (slice_get B.ways k ≡ Some y) × (y.from ≡ b) × HasByte y.bytes c × (g k ≡ Some h)
  -- a state and its image end alike, the image no more often, and are idle alike
  pub ends_back : (b a m : ℕ) → f b ≡ Some a → HasEnd B b m → HasEnd A a m
  pub ends_there : (b a k : ℕ) (x : Stop) → f b ≡ Some a → slice_get A.stops k ≡ Some x → x.state ≡ a →
      (y : Stop) × (slice_get B.stops (e b k) ≡ Some y) × (y.state ≡ b) × (y.marks ≡ x.marks)
  pub ends_apart : (b a k l : ℕ) (x y : Stop) → f b ≡ Some a → slice_get A.stops k ≡ Some x → x.state ≡ a →
      slice_get A.stops l ≡ Some y → y.state ≡ a → e b k ≡ e b l → k ≡ l
  pub idles : (b a : ℕ) → f b ≡ Some a → Has A.idle a ↔ Has B.idle b

abbrev pub bind_option : Option ℕ → (ℕ → Option ℕ) → Option ℕ
bind_option None f = None
bind_option (Some x) f = f x

-- first f1, then f
abbrev pub after_map : (ℕ → Option ℕ) → (ℕ → Option ℕ) → ℕ → Option ℕ
after_map f f1 b = bind_option (f1 b) f

abbrev pub Reduces : Automaton → Automaton → Type 0
Reduces A B = (f : ℕ → Option ℕ) × (g : ℕ → Option ℕ) × (e : ℕ → ℕ → ℕ) × IsReduct A B f g e

-- the states below n, each for itself
abbrev pub same_below : ℕ → ℕ → Option ℕ
same_below n b = if nat_lt b n then Some b else None

-- the same automaton, but for the order of its ways, and for how often each is there; ways that go alike, from one state to
-- one with the same marks, may be one way with the union of their bytes
abbrev pub Rearranges : Automaton → Automaton → Type 0
Rearranges A B = (g : ℕ → Option ℕ) × IsReduct A B (same_below B.states) g (λ b k. k)

-- the same for automata with variables: these are the same
abbrev pub ReducesMarked : Marked → Marked → Type 0
ReducesMarked A B = (A.names ≡ B.names) × Reduces A.graph B.graph

-- each state lies on some way from a start to an end
abbrev pub LeadsToEndIn : Automaton → ℕ → ℕ → Type 0
LeadsToEndIn A zero p = (m : ℕ) × HasEnd A p m
LeadsToEndIn A (suc n) p = (y : Way) × Has A.ways y × (y.from ≡ p) × LeadsToEndIn A n y.to

abbrev pub IsUseful : Automaton → ℕ → Type 0
IsUseful A p = IsReached A p × ((n : ℕ) × LeadsToEndIn A n p)
