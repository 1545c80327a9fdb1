use Rattle.std.proofs.Common.{ℕ, rules, inl, inr, arith, ap, subst, length, Err}
use Rattle.std.specs.Option.{option_copied}
use Rattle.spanner_model.specs.ExprView.{query_of}
use Rattle.spanner_engine.specs.Begun.{IsBeginFault}
use Rattle.spanner_engine.specs.declared.beginning.BeginFault.{BeginFault}
use Rattle.rematch_program.specs.Run.{other_document, past_the_document, filter_full, table_full, by_memory}
use Rattle.note_texts.specs.Notes.{note_bytes, other_document_note}
use Rattle.note_texts.specs.Outcomes.{Is}
use Rattle.rm_outside.specs.declared.status.Status.TheVariants as status
use Rattle.rematch_program.proofs.Fits.{fits_unless, wide_enough}
use Rattle.rematch_program.proofs.HeavyAtoms.{heavy_atom}
use Rattle.rematch_program.proofs.top.begun.Goals as goal

pub begin-requires-clause-row : goal.begin-requires-clause-row
begin-requires-clause-row g c = wide_enough _ _ c.requires.width

pub returns-in-Ok-clause-fits : goal.returns-in-Ok-clause-fits
returns-in-Ok-clause-fits g c =
    fits_unless (length c.args.document.now) (option_copied c.args.after) (λ other keeps. let is = c.in-Ok.ensures.other other keeps in cc) (λ past. let is = c.in-Ok.ensures.place past in cc)

pub returns-in-Ok-clause-held : goal.returns-in-Ok-clause-held
returns-in-Ok-clause-held g c =
    record { automaton = c.args.asking.now.compiled.automaton; compiled = c.automaton.ensures.compiled; read = c.in-Ok.ensures.weighs; atoms = c.in-Ok.ensures.atoms }

pub returns-in-Err-CursorOther-clause-outcome : goal.returns-in-Err-CursorOther-clause-outcome
returns-in-Err-CursorOther-clause-outcome g c =
    let d = c.args.document.now in
    let r = c.args.asking.now.request.now in
    let P : BeginFault → Type 0 = λ fault. IsBeginFault (query_of c.args.asking.now.compiled.query) d r.filter (option_copied c.args.after) r.max_table fault in
    let (keeps, found) = subst P c.in-Err-CursorOther.field-0-is c.in-Err-CursorOther.ensures.fault in
    let still = c.in-Err-CursorOther.ensures.still c.in-Err-CursorOther.kept c.in-Err-CursorOther.found (inr (ap Err c.in-Err-CursorOther.field-0-is)) in
    elim c.with.ensures [
      | inl is ↦ other_document c.in-Err-CursorOther.kept keeps
          (let N : ℕ → Type 0 = λ n. Is c.with.result.status (note_bytes c.with.result.note) status.Cursor (other_document_note c.in-Err-CursorOther.kept n) in subst N found is) still
      | inr is ↦ by_memory is c.in-Err-CursorOther.ensures.steps
    ]

pub returns-in-Err-CursorPlace-clause-outcome : goal.returns-in-Err-CursorPlace-clause-outcome
returns-in-Err-CursorPlace-clause-outcome g c =
    let r = c.args.asking.now.request.now in
    let P : BeginFault → Type 0 = λ fault. IsBeginFault (query_of c.args.asking.now.compiled.query) c.args.document.now r.filter (option_copied c.args.after) r.max_table fault in
    past_the_document (subst P c.in-Err-CursorPlace.field-0-is c.in-Err-CursorPlace.ensures.fault)
    (record { ends = c.fixed.ensures.status; says = search rules }) (c.in-Err-CursorPlace.ensures.still 0 0 (inl (ap Err c.in-Err-CursorPlace.field-0-is)))

pub returns-in-Err-Filter-clause-outcome : goal.returns-in-Err-Filter-clause-outcome
returns-in-Err-Filter-clause-outcome g c =
    let q = query_of c.args.asking.now.compiled.query in
    let d = c.args.document.now in
    let r = c.args.asking.now.request.now in
    let P : BeginFault → Type 0 = λ fault. IsBeginFault q d r.filter (option_copied c.args.after) r.max_table fault in
    let (wanted, plain, heavy) = subst P c.in-Err-Filter.field-0-is c.in-Err-Filter.ensures.fault in
    let at = c.in-Err-Filter.field-0-is in
    let fits = fits_unless (length d) (option_copied c.args.after) (λ other keeps. let is = c.in-Err-Filter.ensures.other other keeps in cc)
    (λ past. let is = c.in-Err-Filter.ensures.place past in cc) in
    elim c.with-in-Err-Filter.ensures [
      | inl is ↦ filter_full fits wanted plain (heavy_atom q d r.max_table c.in-Err-Filter.field-0-0 heavy) is c.in-Err-Filter.ensures.steps
      | inr is ↦ by_memory is c.in-Err-Filter.ensures.steps
    ]

pub returns-in-Err-Table-clause-outcome : goal.returns-in-Err-Table-clause-outcome
returns-in-Err-Table-clause-outcome g c =
    let q = query_of c.args.asking.now.compiled.query in
    let d = c.args.document.now in
    let r = c.args.asking.now.request.now in
    let P : BeginFault → Type 0 = λ fault. IsBeginFault q d r.filter (option_copied c.args.after) r.max_table fault in
    let (over, within) = subst P c.in-Err-Table.field-0-is c.in-Err-Table.ensures.fault in
    let at = c.in-Err-Table.field-0-is in
    let fits = fits_unless (length d) (option_copied c.args.after) (λ other keeps. let is = c.in-Err-Table.ensures.other other keeps in cc)
    (λ past. let is = c.in-Err-Table.ensures.place past in cc) in
    elim c.with-in-Err-Table.ensures [
      | inl is ↦ table_full fits (λ K reads. let most = within K reads in omega (arith, over, most)) is c.in-Err-Table.ensures.steps
      | inr is ↦ by_memory is c.in-Err-Table.ensures.steps
    ]
