use Rattle.std.proofs.Common.{◌≡◌, ◌+◌, ◌*◌, [], ◌∷◌, ◌++◌, length, length-append, length-set, set, sym, ap, subst, arith, ◌∙◌}
use Rattle.set_table.specs.declared.answer.Answer.{Answer}
use Rattle.set_table.specs.declared.lists.Lists.{Lists}
use Rattle.set_table.specs.Answered.{AreStays, look_ups_of, place_in, tabled, with_places}
use Rattle.set_table.specs.Tabled.{Tabled}
use Rattle.numbered_lists.specs.Numbered.{IsLongerBy}
use Rattle.set_table.specs.Runs.{AreIndexed}
use Rattle.set_table.proofs.StayLaws.{longer_by_none, same_stays, stays_more, still_in_order}
use Rattle.set_table.proofs.HeldLaws.{few_more, first_is, first_weighs, held_more, held_same}
use Rattle.set_table.proofs.store.Store.make.Goals as goal

pub returns-then-weight-limit-clause-refused : goal.returns-then-weight-limit-clause-refused
returns-then-weight-limit-clause-refused c =
    let M = c.args.automaton.now in
    let s = c.args.self.now in
    let n = c.add.new.self in
    let sound = c.requires.sound in
    let x : Answer = record { set = c.args.set; question = c.args.question; first = c.in_ok-added.added.first; count = c.in_ok-added.added.count } in (
      first_weighs M.graph s.lists n s.answers.items s.numbers c.args.weight c.in_ok-added.added.weight x
          sound.marked.whole sound.held c.in_ok-added.ensures.added c.requires.set c.requires.question c.requires.absent c.args.limit,
      c.if-weight-limit.true,
    )

pub keep-requires-clause-few_sets : goal.keep-requires-clause-few_sets
keep-requires-clause-few_sets c =
    let M = c.args.automaton.now in
    let s = c.args.self.now in
    let n = c.add.new.self in
    let sound = c.requires.sound in
    let x : Answer = record { set = c.args.set; question = c.args.question; first = c.in_ok-added.added.first; count = c.in_ok-added.added.count } in
    let few = few_more M.graph s.lists n s.answers.items s.numbers c.args.weight c.in_ok-added.added.weight x
    sound.marked.whole sound.held c.in_ok-added.ensures.added c.requires.set c.requires.question c.requires.absent in
    omega (arith, few, sound.small, c.if-weight-limit.false)

pub returns-clause-answered : goal.returns-clause-answered
returns-clause-answered c =
    let M = c.args.automaton.now in
    let s = c.args.self.now in
    let n = c.add.new.self in
    let k = c.keep.new.self in
    let sound = c.requires.sound in
    let x : Answer = record { set = c.args.set; question = c.args.question; first = c.in_ok-added.added.first; count = c.in_ok-added.added.count } in
    let is = first_is M.graph s.lists n s.answers.items s.numbers c.args.weight c.in_ok-added.added.weight x
    sound.marked.whole sound.held c.in_ok-added.ensures.added c.requires.set c.requires.question c.requires.absent c.args.limit in
    (λ i. let t : Tabled = record {
      graph = M.graph;
      limit = c.args.limit;
      sets = (ap (λ (l : Lists). l.sets) c.in_ok-keep.ensures.lists) i;
      look_ups = look_ups_of ((ap (λ (l : Lists). l.sets) c.in_ok-keep.ensures.lists) i) (c.in_ok-keep.ensures.answers i);
    } in t) ∙ is

pub returns-clause-sound : goal.returns-clause-sound
returns-clause-sound c =
    let M = c.args.automaton.now in
    let s = c.args.self.now in
    let n = c.add.new.self in
    let k = c.keep.new.self in
    let sound = c.requires.sound in
    let x : Answer = record { set = c.args.set; question = c.args.question; first = c.in_ok-added.added.first; count = c.in_ok-added.added.count } in
    let w = c.args.weight + c.in_ok-added.added.weight in
    let held = held_more M.graph s.lists n s.answers.items s.numbers c.args.weight c.in_ok-added.added.weight x
    sound.marked.whole sound.held c.in_ok-added.ensures.added c.requires.set c.requires.question c.requires.absent in
    let lists : n ≡ k.lists = sym c.in_ok-keep.ensures.lists in
    let sets : n.sets ≡ k.lists.sets = ap (λ (l : Lists). l.sets) lists in
    let answers : s.answers.items ++ x ∷ [] ≡ k.answers.items = sym c.in_ok-keep.ensures.answers in
    let longer : IsLongerBy s.lists.sets n.sets = c.in_ok-added.ensures.longer.sets in
    let old : AreStays (tabled M.graph c.args.limit s) s.stays.items = sound.stays in
    let count : length c.put_empty.new.stays.items ≡ length n.sets = omega (arith, c.in_ok-put_empty.ensures.count, c.len.ensures.value) in
    let more : AreStays (record { graph = M.graph; limit = c.args.limit; sets = n.sets; look_ups = look_ups_of n.sets (s.answers.items ++ x ∷ []) })
    (set k.stays.items c.args.set c.in_ok-stays.stays) =
    stays_more M.graph c.args.limit s.lists.sets n.sets s.answers.items n.edges.items n.ends.items
    (set (with_places (272 * length n.sets) s.numbers) (place_in c.args.set c.args.question) (1 + length s.answers.items)) w x
    longer held (λ y h. (sound.held.answered y h).set) (omega (arith, c.requires.set, ap length longer.1, length-append s.lists.sets longer.0))
    s.stays.items c.put_empty.new.stays.items (set k.stays.items c.args.set c.in_ok-stays.stays) c.in_ok-stays.stays
    old c.in_ok-put_empty.ensures.same count c.in_ok-stays.ensures (ap (λ zs. set zs c.args.set c.in_ok-stays.stays) c.in_ok-keep.ensures.stays)
    (length-set k.stays.items c.args.set c.in_ok-stays.stays ∙ ap length c.in_ok-keep.ensures.stays) in
    record {
      marked = sound.marked;
      names = sound.names;
      small = sound.small;
      light = c.if-weight-limit.false;
      held = held_same M.graph n.sets k.lists.sets (s.answers.items ++ x ∷ []) k.answers.items n.edges.items k.lists.edges.items n.ends.items k.lists.ends.items
          (set (with_places (272 * length n.sets) s.numbers) (place_in c.args.set c.args.question) (1 + length s.answers.items)) k.numbers w
          sets answers (ap (λ (l : Lists). l.edges.items) lists) (ap (λ (l : Lists). l.ends.items) lists)
          (sym c.in_ok-keep.ensures.numbers) held;
      stays = same_stays M.graph c.args.limit n.sets k.lists.sets (s.answers.items ++ x ∷ []) k.answers.items (set k.stays.items c.args.set c.in_ok-stays.stays) sets answers more;
      indexed = subst (λ (l : Lists). AreIndexed M.graph.ways l.runs) lists c.in_ok-added.ensures.indexed;
    }

pub noted-requires-clause-order : goal.noted-requires-clause-order
noted-requires-clause-order c = still_in_order c.args.automaton.now.graph c.args.self.now.lists.sets c.add.new.self.sets c.args.set
    c.requires.sound.held.states c.in_ok-added.ensures.longer.sets c.requires.set

pub returns-in_err-put_empty-clause-numbers : goal.returns-in_err-put_empty-clause-numbers
returns-in_err-put_empty-clause-numbers c = longer_by_none c.from_residual-in_err-put_empty.result c.args.self.now.numbers

pub returns-in_err-stays-clause-numbers : goal.returns-in_err-stays-clause-numbers
returns-in_err-stays-clause-numbers c = longer_by_none c.from_residual-in_err-stays.result c.args.self.now.numbers

pub returns-clause-indexed : goal.returns-clause-indexed
returns-clause-indexed c = subst (λ (l : Lists). AreIndexed c.args.automaton.now.graph.ways l.runs) (sym c.in_ok-keep.ensures.lists) c.in_ok-added.ensures.indexed
