-- To which sets a set goes with a block, by bytes.
use Rattle.std.specs.Prelude.{◌≡◌, ℕ, ◌<◌, ◌⊎◌, List, length, map, slice_get, Some}
use Rattle.std.specs.Global.{Vec}
use Rattle.span_core.specs.Lists.{AreDistinct, Has, IsInOrder}
use Rattle.marked_automaton.specs.Automaton.{Automaton, ByteClass, HasByte}
use Rattle.automaton_reading.specs.Reading.{set_of}
use Rattle.numbered_lists.specs.Numbered.{IsLongerBy, set_at}
use Rattle.algebra_minus.specs.declared.pieces.Piece.{Piece}
use Rattle.algebra_minus.specs.declared.partitions.Part.{Part}
use Rattle.algebra_minus.specs.declared.partitions.Key.{Key}
use Rattle.algebra_minus.specs.declared.partitions.Partitions.{Partitions}
use Rattle.algebra_minus.specs.declared.rows.RightSide.{RightSide}
use Rattle.algebra_minus.specs.Difference.{SetGoesTo}

-- no two sets are the same, and each is its strictly ascending list
abbrev pub AreSets : List (List ℕ) → Type 0
AreSets sets = AreDistinct sets × ((s : List ℕ) → Has sets s → IsInOrder ◌<◌ s)

-- the byte of the part r is one of an old part with the same number, or it is added
abbrev pub ComesFrom : List Part → ByteClass → ℕ → Part → ℕ → Type 0
ComesFrom old bytes to r c = ((q : Part) × Has old q × (q.to ≡ r.to) × HasByte q.bytes c) ⊎ ((r.to ≡ to) × HasByte bytes c)

-- bytes are added that lead to this number
pub record IsPutInto (old : List Part) (bytes : ByteClass) (to : ℕ) (new : List Part) : Type 0 where
  pub kept : (q : Part) (c : ℕ) → Has old q → HasByte q.bytes c → (r : Part) × Has new r × HasByte r.bytes c
  pub put : (c : ℕ) → HasByte bytes c → (r : Part) × Has new r × HasByte r.bytes c
  pub only : (r : Part) (c : ℕ) → Has new r → HasByte r.bytes c → ComesFrom old bytes to r c
  pub tos : (r : Part) → Has new r → ((q : Part) × Has old q × (q.to ≡ r.to)) ⊎ (r.to ≡ to)
  pub apart : AreDistinct (map (λ (r : Part). r.to) old) → AreDistinct (map (λ (r : Part). r.to) new)

-- pieces are made parts, one for each set
pub record IsPartitionOfPieces (pieces : List Piece) (sets1 sets2 : List (List ℕ)) (partition : List Part) : Type 0 where
  pub longer : IsLongerBy sets1 sets2
  pub sets : AreSets sets1 → AreSets sets2
  pub cover : (q : Piece) (c : ℕ) → Has pieces q → HasByte q.bytes c → (r : Part) × Has partition r × HasByte r.bytes c
  pub only : (r : Part) (c : ℕ) → Has partition r → HasByte r.bytes c → (q : Piece) × Has pieces q × HasByte q.bytes c × (set_at sets2 r.to ≡ set_of q.to.items)
  pub within : (r : Part) → Has partition r → r.to < length sets2
  pub apart : AreDistinct (map (λ (r : Part). r.to) partition)

-- some pieces wait, and the others are parts
pub record IsPartitioning (pieces waiting : List Piece) (sets1 sets2 : List (List ℕ)) (partition : List Part) : Type 0 where
  pub waits : (q : Piece) → Has waiting q → Has pieces q
  pub longer : IsLongerBy sets1 sets2
  pub sets : AreSets sets1 → AreSets sets2
  pub cover : (q : Piece) (c : ℕ) → Has pieces q → HasByte q.bytes c → Has waiting q ⊎ ((r : Part) × Has partition r × HasByte r.bytes c)
  pub only : (r : Part) (c : ℕ) → Has partition r → HasByte r.bytes c → (q : Piece) × Has pieces q × HasByte q.bytes c × (set_at sets2 r.to ≡ set_of q.to.items)
  pub within : (r : Part) → Has partition r → r.to < length sets2
  pub apart : AreDistinct (map (λ (r : Part). r.to) partition)

-- each of the bytes is in a part, the bytes of a part lead to its set, and no two parts have the same set
pub record IsPartitionOf (B : Automaton) (bytes : ByteClass) (S : List ℕ) (m : ℕ) (sets : List (List ℕ)) (partition : List Part) : Type 0 where
  pub cover : (c : ℕ) → HasByte bytes c → (r : Part) × Has partition r × HasByte r.bytes c
  pub goes : (r : Part) (c : ℕ) → Has partition r → HasByte r.bytes c → SetGoesTo B S c m (set_at sets r.to)
  pub within : (r : Part) → Has partition r → r.to < length sets
  pub apart : AreDistinct (map (λ (r : Part). r.to) partition)

-- each key has its partition
pub record ArePartitions (B : Automaton) (bytes : ByteClass) (sets : List (List ℕ)) (keys : List Key) (partitions : List (Vec Part)) : Type 0 where
  pub long : length partitions ≡ length keys
  pub known : (k : ℕ) (key : Key) → slice_get keys k ≡ Some key → (key.set < length sets)
      × ((partition : Vec Part) × (slice_get partitions k ≡ Some partition) × IsPartitionOf B bytes (set_at sets key.set) key.marks sets partition.items)

-- the same over the bytes of the right side
abbrev pub IsPartitionFor : RightSide → List ℕ → ℕ → List (List ℕ) → List Part → Type 0
IsPartitionFor right S m sets partition = IsPartitionOf right.automaton.now.graph right.bytes S m sets partition

abbrev pub ArePartitionsFor : RightSide → List (List ℕ) → Partitions → Type 0
ArePartitionsFor right sets known = ArePartitions right.automaton.now.graph right.bytes sets known.keys.keys known.parts.items
