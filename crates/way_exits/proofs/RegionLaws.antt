-- What is proposed of a region is checked way by way.
use Rattle.std.proofs.Common.{◌≡◌, ℕ, zero, suc, ◌+◌, ◌<◌, Bool, true, false, List, [], ◌∷◌, length, get_or, take, inl, inr, refl, sym, ap, subst, arith, ◌∙◌}
use Rattle.std.specs.Prelude.{◌==◌, ◌&&◌, ◌||◌, ◌⊎◌, not, if◌then◌else◌, IsTrue, IfSome, Option, Some, None, Vec}
use Rattle.std.specs.Global.{Global}
use Rattle.byte_runs.specs.Inner.{Inner}
use Rattle.std.specs.FinSet as bytes
use Rattle.std.specs.FinSet.{contains-difference, contains-intersection, contains-union}
use Rattle.std.specs.Cmp.{nat_cmp_total}
use Rattle.std.proofs.lemmas.Bool.{eqb-true, eq-eqb}
use Rattle.span_core.specs.Lists.{Has}
use Rattle.span_core.proofs.HasLaws.{Has-get_or, Has-map, Has-map_cases, Has-take_more_cases}
use Rattle.marked_automaton.specs.declared.way.Way.{Way}
use Rattle.marked_automaton.specs.Automaton.{ByteClass, HasByte}
use Rattle.marked_automaton.proofs.Passing.{left_true, right_true}
use Rattle.way_exits.specs.Home.{BeginsIn, BringsHome, ComesHome, IsHomeRegion, IsUnspoilt, LeadsTo}
use Rattle.way_exits.specs.Inside.{IsRegion, Kills, WaitsInside}
use Rattle.way_exits.specs.Regions.{FitsIn, depth_of, region_of}
use Rattle.way_exits.specs.Waiting.{IsLoop, IsLooping}
use Rattle.way_exits.specs.declared.regions.Member.{Member}

-- ---- members

abbrev pub no_member : Member
no_member = record { state = 0; depth = 0 }

-- no member so far has the state
abbrev pub HasNone : List Member → ℕ → Type 0
HasNone members state = (m : Member) → Has members m → m.state ≡ state → ⊥

pub none_more : (members : List Member) (i state : ℕ) → i < length members → HasNone (take i members) state → ((get_or members i no_member).state ≡ state → ⊥) → HasNone (take (i + 1) members) state
none_more members i state less none not x h =
    elim (Has-take_more_cases members i no_member x less h) as (λ _. x.state ≡ state → ⊥) [
      | inl there ↦ none x there
      | inr e ↦ λ same. not (ap (λ (y : Member). y.state) e ∙ same)
    ]

pub none_there : (members : List Member) (state : ℕ) → HasNone members state → Has (region_of members) state → ⊥
none_there members state none h = let m = Has-map_cases (λ (y : Member). y.state) members state h in none m.0 m.1 m.2

pub there_found : (members : List Member) (i state : ℕ) → i < length members → (get_or members i no_member).state ≡ state → Has (region_of members) state
there_found members i state less same =
    subst (Has (region_of members)) same (Has-map (λ (y : Member). y.state) members (get_or members i no_member) (Has-get_or members i no_member less))

pub depth_found : (members : List Member) (i state : ℕ) → i < length members → (get_or members i no_member).state ≡ state → HasNone (take i members) state →
    depth_of members state ≡ (get_or members i no_member).depth
depth_found [] i state less same none = absurd (omega (arith, less))
depth_found (y ∷ members) zero state less same none = ap (λ v. if v then y.depth else depth_of members state) (eq-eqb y.state state same)
depth_found (y ∷ members) (suc i) state less same none = go (depth_found members i state (omega (arith, less)) same (λ x h. none x (inr h))) (y.state == state) refl
  where
    go : depth_of members state ≡ (get_or members i no_member).depth → (v : Bool) → (y.state == state) ≡ v → depth_of (y ∷ members) state ≡ (get_or members i no_member).depth
    go rest true e = absurd (none y (inl refl) (eqb-true y.state state e))
    go rest false e = ap (λ v. if v then y.depth else depth_of members state) e ∙ rest

-- ---- ways

abbrev pub AllFit : List ℕ → List Member → List ℕ → List Way → Type 0
AllFit states members text ways = (y : Way) → Has ways y → FitsIn states members text y

pub fit_more : (states : List ℕ) (members : List Member) (text : List ℕ) (ways : List Way) (i : ℕ) (y : Way) → i < length ways → y ≡ get_or ways i y → AllFit states members text (take i ways) →
    FitsIn states members text y → AllFit states members text (take (i + 1) ways)
fit_more states members text ways i y less at before fits z h =
    elim (Has-take_more_cases ways i y z less h) as (λ _. FitsIn states members text z) [
      | inl there ↦ before z there
      | inr e ↦ subst (λ (x : Way). FitsIn states members text x) (at ∙ e) fits
    ]

pub region_is : (ways : List Way) (states : List ℕ) (members : List Member) (text : List ℕ) → ((p : ℕ) → Has states p → IsLooping ways p) → AllFit states members text ways →
    IsRegion ways states (region_of members) (depth_of members) text
region_is ways states members text looping fit = record {
  looping = looping;
  enters = λ y h from. (fit y h).enters from;
  stays = λ y h from. (fit y h).stays from;
}

-- ---- bytes that kill

abbrev pub AllKill : List Way → List ℕ → List ℕ → ByteClass → Type 0
AllKill ways states region kills = (b : ℕ) → IsTrue (bytes.contains kills b) → Kills ways states region b

pub kill_more : (ways : List Way) (i : ℕ) (y : Way) (states region : List ℕ) (old new : ByteClass) → i < length ways → y ≡ get_or ways i y → AllKill (take i ways) states region old →
    ((b : ℕ) → IsTrue (bytes.contains new b) → IsTrue (bytes.contains old b)) → AllKill (y ∷ []) states region new → AllKill (take (i + 1) ways) states region new
kill_more ways i y states region old new less at before fewer here b h = record {
  inside = λ z there from byte. elim (Has-take_more_cases ways i y z less there) as (λ _. ⊥) [
    | inl early ↦ (before b (fewer b h)).inside z early from byte
    | inr e ↦ (here b h).inside z (inl (at ∙ e)) from byte
  ];
  outside = λ z there from byte. elim (Has-take_more_cases ways i y z less there) as (λ _. IsLoop z) [
    | inl early ↦ (before b (fewer b h)).outside z early from byte
    | inr e ↦ (here b h).outside z (inl (at ∙ e)) from byte
  ];
}

-- what is left without the bytes of the way is none of these
pub out_of : (kills taken rest : ByteClass) → rest ≡ bytes.difference kills taken → (b : ℕ) → IsTrue (bytes.contains rest b) →
    IsTrue (bytes.contains kills b) × (IsTrue (bytes.contains taken b) → ⊥)
out_of kills taken rest is b h =
    let both : (bytes.contains kills b && not (bytes.contains taken b)) ≡ true = sym (contains-difference nat_cmp_total kills taken b) ∙ (ap (λ s. bytes.contains s b) (sym is) ∙ h) in (
      left_true (bytes.contains kills b) (not (bytes.contains taken b)) both,
      λ t. differ (sym (right_true (bytes.contains kills b) (not (bytes.contains taken b)) both) ∙ ap not t),
    )
  where
    differ : true ≡ false → ⊥
    differ e = cc

pub kills_without : (y : Way) (states region : List ℕ) (kills rest : ByteClass) → rest ≡ bytes.difference kills y.bytes → AllKill (y ∷ []) states region rest
kills_without y states region kills rest is b h = record {
  inside = λ z there from byte. elim there as (λ _. ⊥) [
    | inl e ↦ (out_of kills y.bytes rest is b h).1 (subst (λ (x : Way). HasByte x.bytes b) (sym e) byte)
    | inr none ↦ absurd none
  ];
  outside = λ z there from byte. elim there as (λ _. IsLoop z) [
    | inl e ↦ absurd ((out_of kills y.bytes rest is b h).1 (subst (λ (x : Way). HasByte x.bytes b) (sym e) byte))
    | inr none ↦ absurd none
  ];
}

-- ---- what was checked

pub inside_so : (ways : List Way) (states : List ℕ) (members : List Member) (text : List ℕ) (kills : ByteClass) (r : Option Inner) →
    IsRegion ways states (region_of members) (depth_of members) text → AllKill ways states (region_of members) kills →
    IfSome r (λ (t : Inner). t.text ≡ text) → IfSome r (λ (t : Inner). t.kills ≡ kills) → IfSome r (WaitsInside ways states)
inside_so ways states members text kills None is all one two = tt
inside_so ways states members text kills (Some t) is all one two = record {
  region = region_of members;
  depth = depth_of members;
  is = subst (IsRegion ways states (region_of members) (depth_of members)) (sym one) is;
  kills = λ b h. all b (subst (λ s. IsTrue (bytes.contains s b)) two h);
}

-- ---- bytes that bring home

abbrev pub AllBegin : List Way → List Member → List ℕ → Type 0
AllBegin ways members states = (p : ℕ) → Has states p → BeginsIn ways members p

pub home_region : (ways : List Way) (states : List ℕ) (members : List Member) (text : List ℕ) → AllBegin ways members states → AllFit states members text ways →
    IsHomeRegion ways states (region_of members) (depth_of members) text
home_region ways states members text begins fit = record {
  begins = begins;
  enters = λ y h from. (fit y h).enters from;
  stays = λ y h from. (fit y h).stays from;
}

pub unspoilt_without : (y : Way) (states region : List ℕ) (homes rest : ByteClass) → rest ≡ bytes.difference homes y.bytes → (b : ℕ) → IsTrue (bytes.contains rest b) → IsUnspoilt y states region b
unspoilt_without y states region homes rest is b h = record {
  inside = λ from byte. (out_of homes y.bytes rest is b h).1 byte;
  within = λ from byte. absurd ((out_of homes y.bytes rest is b h).1 byte);
}

-- the bytes lead to each of these
abbrev pub AllLeadTo : List Way → List ℕ → List ℕ → ByteClass → Type 0
AllLeadTo ways states some homes = (b : ℕ) → IsTrue (bytes.contains homes b) → (p : ℕ) → Has some p → LeadsTo ways states p b

-- no way of these spoils them
abbrev pub NoneSpoil : List Way → List ℕ → List ℕ → ByteClass → Type 0
NoneSpoil ways states region homes = (b : ℕ) → IsTrue (bytes.contains homes b) → (y : Way) → Has ways y → IsUnspoilt y states region b

pub lead_more : (ways : List Way) (states : List ℕ) (i : ℕ) (old taken new : ByteClass) → i < length states → AllLeadTo ways states (take i states) old →
    ((b : ℕ) → IsTrue (bytes.contains taken b) → LeadsTo ways states (get_or states i 0) b) → new ≡ bytes.intersection old taken → AllLeadTo ways states (take (i + 1) states) new
lead_more ways states i old taken new less before here is b h p there =
    let both : (bytes.contains old b && bytes.contains taken b) ≡ true = sym (contains-intersection nat_cmp_total old taken b) ∙ (ap (λ s. bytes.contains s b) (sym is) ∙ h) in
    elim (Has-take_more_cases states i 0 p less there) as (λ _. LeadsTo ways states p b) [
      | inl early ↦ before b (left_true (bytes.contains old b) (bytes.contains taken b) both) p early
      | inr e ↦ subst (λ q. LeadsTo ways states q b) e (here b (right_true (bytes.contains old b) (bytes.contains taken b) both))
    ]

pub spoil_more : (ways : List Way) (i : ℕ) (y : Way) (states region : List ℕ) (old new : ByteClass) → i < length ways → y ≡ get_or ways i y → NoneSpoil (take i ways) states region old →
    ((b : ℕ) → IsTrue (bytes.contains new b) → IsTrue (bytes.contains old b)) → ((b : ℕ) → IsTrue (bytes.contains new b) → IsUnspoilt y states region b) → NoneSpoil (take (i + 1) ways) states region new
spoil_more ways i y states region old new less at before fewer here b h z there =
    elim (Has-take_more_cases ways i y z less there) as (λ _. IsUnspoilt z states region b) [
      | inl early ↦ before b (fewer b h) z early
      | inr e ↦ subst (λ (x : Way). IsUnspoilt x states region b) (at ∙ e) (here b h)
    ]

-- the bytes of two sets are in one of them
pub union_cases : (s t u : ByteClass) → u ≡ bytes.union s t → (b : ℕ) → IsTrue (bytes.contains u b) → IsTrue (bytes.contains s b) ⊎ IsTrue (bytes.contains t b)
union_cases s t u is b h = or_cases (bytes.contains s b) (bytes.contains t b) (sym (contains-union nat_cmp_total s t b) ∙ (ap (λ x. bytes.contains x b) (sym is) ∙ h))
  where
    or_cases : (u v : Bool) → (u || v) ≡ true → (u ≡ true) ⊎ (v ≡ true)
    or_cases true v e = inl refl
    or_cases false v e = inr e

-- each of these sets stands in the region, and the bytes bring it home
abbrev pub AllHome : List Way → List Member → List ℕ → List (Vec ℕ Global) → ByteClass → Type 0
AllHome ways members text sets homes = (v : Vec ℕ Global) → Has sets v →
    IsHomeRegion ways v.items (region_of members) (depth_of members) text × ((b : ℕ) → IsTrue (bytes.contains homes b) → BringsHome ways v.items (region_of members) b)

pub home_more : (ways : List Way) (members : List Member) (text : List ℕ) (sets : List (Vec ℕ Global)) (i : ℕ) (v : Vec ℕ Global) (old brought new : ByteClass) → i < length sets → v ≡ get_or sets i v →
    AllHome ways members text (take i sets) old → IsHomeRegion ways v.items (region_of members) (depth_of members) text →
    ((b : ℕ) → IsTrue (bytes.contains brought b) → BringsHome ways v.items (region_of members) b) → new ≡ bytes.intersection old brought → AllHome ways members text (take (i + 1) sets) new
home_more ways members text sets i v old brought new less at before region here is w there =
    elim (Has-take_more_cases sets i v w less there) as
    (λ _. IsHomeRegion ways w.items (region_of members) (depth_of members) text × ((b : ℕ) → IsTrue (bytes.contains new b) → BringsHome ways w.items (region_of members) b)) [
      | inl early ↦ ((before w early).0, λ b h. (before w early).1 b (left_true (bytes.contains old b) (bytes.contains brought b) (both b h)))
      | inr e ↦
          subst (λ (x : Vec ℕ Global). IsHomeRegion ways x.items (region_of members) (depth_of members) text × ((b : ℕ) → IsTrue (bytes.contains new b) → BringsHome ways x.items (region_of members) b)) (at ∙ e)
          (region, λ b h. here b (right_true (bytes.contains old b) (bytes.contains brought b) (both b h)))
    ]
  where
    both : (b : ℕ) → IsTrue (bytes.contains new b) → (bytes.contains old b && bytes.contains brought b) ≡ true
    both b h = sym (contains-intersection nat_cmp_total old brought b) ∙ (ap (λ s. bytes.contains s b) (sym is) ∙ h)

pub home_so : (ways : List Way) (sets : List (Vec ℕ Global)) (members : List Member) (text : List ℕ) (homes : ByteClass) (r : Option Inner) →
    AllHome ways members text sets homes → IfSome r (λ (t : Inner). t.text ≡ text) → IfSome r (λ (t : Inner). t.kills ≡ homes) → IfSome r (ComesHome ways sets)
home_so ways sets members text homes None all one two = tt
home_so ways sets members text homes (Some t) all one two = record {
  region = region_of members;
  depth = depth_of members;
  is = λ v h. subst (IsHomeRegion ways v.items (region_of members) (depth_of members)) (sym one) (all v h).0;
  homes = λ b byte v h. (all v h).1 b (subst (λ s. IsTrue (bytes.contains s b)) two byte);
}
