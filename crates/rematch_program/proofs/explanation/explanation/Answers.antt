use Rattle.std.specs.Prelude.{codes}
use Rattle.spanner_model.specs.ExprView.{query_of}
use Rattle.rematch_program.specs.Explained.{atoms_in, atoms_of, names_text}
use Rattle.query_printer.specs.PrintedTested.{tested_text}
use Rattle.rematch_program.proofs.CountedAtoms.{sound_body_counted, sound_lets_counted}
use Rattle.rematch_program.proofs.AtomLines.{explained_text, more_lines}
use Rattle.rematch_program.proofs.explanation.explanation.Goals as goal

pub push_let_atoms-requires : goal.push_let_atoms-requires
push_let_atoms-requires c = sound_lets_counted (query_of c.args.tested.now.query) c.requires

pub push_atoms-requires : goal.push_atoms-requires
push_atoms-requires c = sound_body_counted (query_of c.args.tested.now.query) c.requires

pub returns : goal.returns
returns c =
    let q = query_of c.args.tested.now.query in
    let asked = c.args.tested.now.asked in
    let lines = more_lines 0 c.push.new.self.items (atoms_in q.lets) c.in_ok-atoms.atoms c.push_let_atoms.new.text.items (atoms_of q.body)
    c.in_ok-_all._all c.push_atoms.new.text.items c.in_ok-atoms.ensures c.in_ok-_all.ensures in
    let shown = c.in_ok-print_tested.ensures.ok in (
      c.in_ok-vars.vars,
      c.in_ok-vars.ensures,
      explained_text (codes "query ") (codes "variables ") (tested_text q asked) (names_text c.in_ok-vars.vars) _ c.new-text.result.items _ _ _ _ _ _
          c.new-text.ensures.items c.in_ok-extend_from_slice.ensures.items shown c.in_ok-extend_from_slice-2.ensures.items
          c.in_ok-push_names.ensures c.in_ok-push.ensures.items lines.lines,
    )
