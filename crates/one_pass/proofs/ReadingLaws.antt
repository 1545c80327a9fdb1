-- What a table and its pass do is what the reading of both does.
use Rattle.std.proofs.Common.{◌≡◌, ◌≤◌, ◌+◌, ◌*◌, ℕ, List, length, refl, subst}
use Rattle.set_table.specs.Tabled.{Tabled}
use Rattle.set_table.specs.declared.fault.TableFault.{TableFault}
use Rattle.one_pass.specs.declared.pass.Pass.{Pass}
use Rattle.output_graph.specs.Graph.{Graph, HasWord, targets}
use Rattle.output_graph.specs.Listed.{Lists}
use Rattle.output_graph.specs.Loop.{AreListed}
use Rattle.one_pass.specs.Going.{GivesUp, GivesUpEnd, GoesOn, PassEnds}
use Rattle.one_pass.specs.Passes.{pass}
use Rattle.one_pass.specs.Places.{ReadingPlace}
use Rattle.one_pass.specs.Readings.{HasEndedCopy, HasListed, IsEndedThere, IsGivenUpAt, IsGivenUpAtEnd, so_far}
use Rattle.one_pass.specs.SoFar.{SoFar}
use Rattle.one_pass.proofs.CopyLaws.{goes_on_grown}

-- it was given up
pub refused_here : {r : SoFar} {t u : Tabled} {p : Pass} (ps : ℕ → List ReadingPlace) {n m : ℕ} {e : TableFault} → so_far t p ≡ r → GivesUp (ps p.at) t p n u m e → IsGivenUpAt (ps r.at) r n m e
refused_here {u = u} ps {n} {m} {e} is up = subst (λ (x : SoFar). IsGivenUpAt (ps x.at) x n m e) is (record { table = u; stopped = up.stopped; cause = up.cause })

-- a copy was ended
pub listed_here : {r : SoFar} {t u : Tabled} {p : Pass} {n m : ℕ} → so_far t p ≡ r → GoesOn t p → HasEndedCopy t.graph (pass t p.graph n) (pass u p.graph m) → HasListed r n (so_far u p) m
listed_here {u = u} {p} {n} {m} is g done = subst (λ (x : SoFar). HasListed x n (so_far u p) m) is (record { ended = done; ready = (goes_on_grown g done).ready; at = refl })

-- its sources were ended
pub ended_here : {r : SoFar} {t u : Tabled} (p : Pass) {g : Graph} {n k m : ℕ} {lists : Lists} → so_far t p ≡ r → PassEnds t p n u g k →
    AreListed (λ w. HasWord (targets g) 0 w) (length g.cells) lists.store lists.first → m ≤ k + 2 * length g.cells + 2 → IsEndedThere r n lists m
ended_here {u = u} p {g = g} {n} {k} {m} {lists} is done listed turned =
    subst (λ (x : SoFar). IsEndedThere x n lists m) is (record { table = u; graph = g; after = k; ended = done; listed = listed; turned = turned })

-- they were not
pub refused_there : {r : SoFar} {t u : Tabled} (p : Pass) {n m : ℕ} {e : TableFault} → so_far t p ≡ r → GivesUpEnd t p n u m e → IsGivenUpAtEnd r n m e
refused_there {u = u} p {n = n} {m} {e} is up = subst (λ (x : SoFar). IsGivenUpAtEnd x n m e) is (record { table = u; stopped = up.stopped; cause = up.cause })
