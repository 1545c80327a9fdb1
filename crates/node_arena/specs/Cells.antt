-- Link cells, newest first. A link names only cells behind it, so the list is the finite map from names to links and the age list in one.
use Rattle.std.specs.Prelude.{◌≡◌, ◌⊎◌, ◌↔◌, ℕ, ◌-◌, ◌<◌, List, [], ◌∷◌, Option, Some, None, refl, if◌then◌else◌, nat_eq}
use Rattle.std.specs.Ordering.{nat_cmp}
use Rattle.std.specs.FinMap as map
use Rattle.std.specs.Coded.{Coded, code_by, coded×, coded_list, coded_option, coded_ℕ}
use Rattle.span_core.specs.Lists.{Has}

-- a link with the name of its cell
pub record NamedLink : Type 0 where
  pub name : ℕ
  pub at : ℕ
  pub marks : ℕ
  pub from : Option ℕ
  pub also : Option ℕ

-- how often each held cell is held
abbrev pub Holds : Type 0
Holds = map.FinMap nat_cmp ℕ

-- what contracts see of an arena: its cells, newest first, their holds, and how many cells there is room for
pub record Cells : Type 0 where
  pub cells : List NamedLink
  pub holds : Holds
  pub spare : ℕ

abbrev pub link_code : Coded NamedLink
link_code =
    code_by (ℕ × (ℕ × (ℕ × (Option ℕ × Option ℕ)))) (coded× coded_ℕ (coded× coded_ℕ (coded× coded_ℕ (coded× (coded_option coded_ℕ) (coded_option coded_ℕ)))))
    (λ l. (l.name, (l.at, (l.marks, (l.from, l.also))))) (λ p. record { name = p.0; at = p.1.0; marks = p.1.1.0; from = p.1.1.1.0; also = p.1.1.1.1 }) (λ _. refl)

abbrev pub cells_code : Coded Cells
cells_code =
    code_by (List NamedLink × (Holds × ℕ)) (coded× (coded_list link_code) (coded× (map.code coded_ℕ coded_ℕ) coded_ℕ))
    (λ v. (v.cells, (v.holds, v.spare))) (λ p. record { cells = p.0; holds = p.1.0; spare = p.1.1 }) (λ _. refl)

-- c is the name of one of the cells
abbrev pub HasCell : List NamedLink → ℕ → Type 0
HasCell cells c = (l : NamedLink) × Has cells l × (l.name ≡ c)

-- the link names c
abbrev pub Names : NamedLink → ℕ → Type 0
Names l c = (l.from ≡ Some c) ⊎ (l.also ≡ Some c)

-- no cell names c
abbrev pub IsUnnamed : List NamedLink → ℕ → Type 0
IsUnnamed cells c = (l : NamedLink) → Has cells l → Names l c → ⊥

-- the cells but c
abbrev pub without : ℕ → List NamedLink → List NamedLink
without c [] = []
without c (l ∷ older) = if nat_eq l.name c then older else l ∷ without c older

abbrev pub or_zero : Option ℕ → ℕ
or_zero None = 0
or_zero (Some n) = n

-- how often c is held
abbrev pub hold : Holds → ℕ → ℕ
hold holds c = or_zero (map.get holds c)

-- the same holds, but c is held n times
abbrev pub with_hold : Holds → ℕ → ℕ → Holds
with_hold holds c n = if nat_eq n 0 then map.remove holds c else map.insert holds c n

-- one hold of this cell less
abbrev pub less_hold : Holds → Option ℕ → Holds
less_hold holds None = holds
less_hold holds (Some c) = with_hold holds c (hold holds c - 1)

-- the link of a root
abbrev pub root_link : ℕ → NamedLink
root_link name = record { name = name; at = 0; marks = 0; from = None; also = None }

-- the link of a new cell
abbrev pub new_link : ℕ → ℕ → ℕ → ℕ → Option ℕ → NamedLink
new_link name at marks from also = record { name = name; at = at; marks = marks; from = Some from; also = also }

-- l may be the next newer cell
pub record Follows (older : List NamedLink) (l : NamedLink) : Type 0 where
  pub fresh : HasCell older l.name → ⊥
  pub from_there : (c : ℕ) → l.from ≡ Some c → HasCell older c
  pub also_there : (c : ℕ) → l.also ≡ Some c → HasCell older c
  pub apart : (c : ℕ) → l.from ≡ Some c → l.also ≡ Some c → ⊥

-- names are distinct, and each link names cells further back
abbrev pub AreLinked : List NamedLink → Type 0
AreLinked [] = Unit {0}
AreLinked (l ∷ older) = Follows older l × AreLinked older

-- some cell names c
abbrev pub IsNamed : List NamedLink → ℕ → Type 0
IsNamed cells c = (l : NamedLink) × Has cells l × Names l c

-- c is held, or is reached from a held cell
pub data IsLive (holds : Holds) (cells : List NamedLink) : ℕ → Type 0 where
  held : {c : ℕ} → 0 < hold holds c → IsLive holds cells c
  named : {c : ℕ} (l : NamedLink) → Has cells l → Names l c → IsLive holds cells l.name → IsLive holds cells c

-- what is always true of an arena
pub record IsArena (v : Cells) : Type 0 where
  pub linked : AreLinked v.cells
  pub held_there : (c : ℕ) → 0 < hold v.holds c → HasCell v.cells c
  pub kept : (c : ℕ) → HasCell v.cells c → (0 < hold v.holds c) ⊎ IsNamed v.cells c
  pub live : (c : ℕ) → HasCell v.cells c ↔ IsLive v.holds v.cells c
  pub proper : (c : ℕ) → map.get v.holds c ≡ (if nat_eq (hold v.holds c) 0 then None else Some (hold v.holds c))
