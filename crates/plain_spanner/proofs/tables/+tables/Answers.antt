use Rattle.std.proofs.Common.{◌≡◌, ◌<◌, List, [], length, take, Some, IfOk, sym, ap, ◌∙◌, subst, arith}
use Rattle.std.specs.Prelude.{slice_get}
use Rattle.std.proofs.Math.Seq.{take-length}
use Rattle.std.proofs.lemmas.Option.{slice_get-get_or}
use Rattle.span_core.specs.Lists.{Has}
use Rattle.spanner_model.specs.Captures.{VarName}
use Rattle.spanner_model.specs.Answers.{SpanRow}
use Rattle.spanner_model.specs.View.{tree_of}
use Rattle.spanner_model.specs.Sequential.{HasVar}
use Rattle.spanner_model.specs.Expression.{ExprTree, minus, named, project, union_all, join_all}
use Rattle.spanner_model.specs.ExprView.{expr_of, exprs_of, query_of}
use Rattle.spanner_model.specs.Answer.{VarOf, Answer, vars_of_lets, answers_of_lets}
use Rattle.span_core.proofs.HasLaws.{Has-slice_get}
use Rattle.spanner_model.proofs.Nodes.{expr_nodes}
use Rattle.spanner_model.proofs.ExprLaws.{union_size, part_size}
use Rattle.spanner_model.proofs.ExprTrees.{expr_of-Atom, expr_of-Named, expr_of-Union, expr_of-Join, expr_of-Minus, expr_of-Project}
use Rattle.plain_spanner.specs.declared.table.Table.{Table}
use Rattle.plain_spanner.specs.Listed.{Tells, FromSome}
use Rattle.plain_spanner.specs.Tables.{IsTableOf, IsAsked, IsLeft, IsRowOver}
use Rattle.plain_spanner.proofs.TellsLaws.{ok_both}
use Rattle.plain_spanner.proofs.TableLaws.{asked_united, asked_joined, asked_sub, asked_var, united_var, joined_var, room_of, rows_of_table, kept_listed, kept_all, whole_rows}
use Rattle.plain_spanner.proofs.JoinTables.{left_table, none_table, unit_table, union_next, join_next}
use Rattle.plain_spanner.proofs.tables.+tables.Goals as goal

pub expr_table-atom_table-requires : goal.expr_table-atom_table-requires
expr_table-atom_table-requires t c =
    let q = query_of c.args.query.now in
    let f = tree_of c.in-Atom.atom.formula in
    let e = ap expr_of c.in-Atom.is ∙ expr_of-Atom c.in-Atom.atom in
    let a = subst (IsAsked q (length c.args.tables.now)) e c.requires.asked in
    record {
      built = a.sound_expr.0;
      sequential = a.sound_expr.1;
      room = room_of q (HasVar f) [] a.sound (λ x h. absurd h) a.named;
      short = c.requires.short;
    }

pub expr_table-over-requires : goal.expr_table-over-requires
expr_table-over-requires t c =
    let q = query_of c.args.query.now in
    let n = length c.args.tables.now in
    let k = c.in-Named.k in
    let u = c.index-tables-k.result in
    let within : k < n = (subst (IsAsked q n) (ap expr_of c.in-Named.is ∙ expr_of-Named k) c.requires.asked).sound_expr in
    let at : slice_get c.args.tables.now k ≡ Some u = slice_get-get_or c.args.tables.now k u within ∙ ap Some (sym c.index-tables-k.is) in
    rows_of_table (vars_of_lets q.lets n k) (answers_of_lets q.lets c.args.doc.now n k) u.names u.rows.items (c.requires.known k u at)

pub expr_table-returns-in-Atom : goal.expr_table-returns-in-Atom
expr_table-returns-in-Atom t c =
    let q = query_of c.args.query.now in
    let e = ap expr_of c.in-Atom.is ∙ expr_of-Atom c.in-Atom.atom in
    rw e c.atom_table.ensures

pub expr_table-returns-in-Named : goal.expr_table-returns-in-Named
expr_table-returns-in-Named t c =
    let q = query_of c.args.query.now in
    let d = c.args.doc.now in
    let n = length c.args.tables.now in
    let k = c.in-Named.k in
    let u = c.index-tables-k.result in
    let e = ap expr_of c.in-Named.is ∙ expr_of-Named k in
    let within : k < n = (subst (IsAsked q n) e c.requires.asked).sound_expr in
    let at : slice_get c.args.tables.now k ≡ Some u = slice_get-get_or c.args.tables.now k u within ∙ ap Some (sym c.index-tables-k.is) in
    let known = c.requires.known k u at in
    rw e
    (ok_both c.over.result (λ (t : Table). t.names ≡ u.names)
    (λ (t : Table). Tells (Has t.rows.items) (FromSome (IsRowOver u.names u.names) u.rows.items)) (λ (t : Table). IsTableOf q d n (named k) t.names t.rows.items)
    (λ t same rows. rw same
    (record { ascending = known.ascending; named = known.named; listed = kept_all (answers_of_lets q.lets d n k) u.names u.rows.items (Has t.rows.items) known.listed rows }))
    c.over.ensures.names c.over.ensures.rows)

pub expr_table-union_table-requires : goal.expr_table-union_table-requires
expr_table-union_table-requires t c =
    let e = ap expr_of c.in-Union.is ∙ expr_of-Union c.in-Union.parts in
    let size = ap expr_nodes e ∙ union_size (exprs_of c.in-Union.parts) in
    (omega (arith, size), (c.requires.known, (subst (IsAsked (query_of c.args.query.now) (length c.args.tables.now)) e c.requires.asked, c.requires.short)))

pub expr_table-join_table-requires : goal.expr_table-join_table-requires
expr_table-join_table-requires t c =
    let e = ap expr_of c.in-Join.is ∙ expr_of-Join c.in-Join.parts in
    let size = ap expr_nodes e in
    (omega (arith, size), (c.requires.known, (subst (IsAsked (query_of c.args.query.now) (length c.args.tables.now)) e c.requires.asked, c.requires.short)))

pub expr_table-returns-in-Union : goal.expr_table-returns-in-Union
expr_table-returns-in-Union t c =
    let e = ap expr_of c.in-Union.is ∙ expr_of-Union c.in-Union.parts in
    rw e c.union_table.ensures

pub expr_table-returns-in-Join : goal.expr_table-returns-in-Join
expr_table-returns-in-Join t c =
    let e = ap expr_of c.in-Join.is ∙ expr_of-Join c.in-Join.parts in
    rw e c.join_table.ensures

pub expr_table-expr_table-requires : goal.expr_table-expr_table-requires
expr_table-expr_table-requires t c =
    let e = ap expr_of c.in-Project.is ∙ expr_of-Project c.in-Project.names c.in-Project.sub ∙ ap (λ x. project c.in-Project.names (expr_of x)) (sym c.deref.ensures) in
    let size = ap expr_nodes e in
    let a = subst (IsAsked (query_of c.args.query.now) (length c.args.tables.now)) e c.requires.asked in
    (omega (arith, size), (c.requires.known, (asked_sub (query_of c.args.query.now) (length c.args.tables.now) c.in-Project.names (expr_of c.deref.result.now) a, c.requires.short)))

pub expr_table-over-requires-in-Project : goal.expr_table-over-requires-in-Project
expr_table-over-requires-in-Project t c =
    let q = query_of c.args.query.now in
    let n = length c.args.tables.now in
    let g = expr_of c.deref.result.now in
    let e = ap expr_of c.in-Project.is ∙ expr_of-Project c.in-Project.names c.in-Project.sub ∙ ap (λ x. project c.in-Project.names (expr_of x)) (sym c.deref.ensures) in
    let u = c.in_ok-inner-in-Project.inner in
    rows_of_table (VarOf (vars_of_lets q.lets n) g) (Answer (vars_of_lets q.lets n) (answers_of_lets q.lets c.args.doc.now n) c.args.doc.now g) u.names u.rows.items c.in_ok-inner-in-Project.ensures

pub expr_table-returns-in_ok-inner-in-Project : goal.expr_table-returns-in_ok-inner-in-Project
expr_table-returns-in_ok-inner-in-Project t c =
    let q = query_of c.args.query.now in
    let d = c.args.doc.now in
    let n = length c.args.tables.now in
    let g = expr_of c.deref.result.now in
    let names = c.in-Project.names in
    let e = ap expr_of c.in-Project.is ∙ expr_of-Project names c.in-Project.sub ∙ ap (λ x. project names (expr_of x)) (sym c.deref.ensures) in
    let a = subst (IsAsked q n) e c.requires.asked in
    let u = c.in_ok-inner-in-Project.inner in
    let known = c.in_ok-inner-in-Project.ensures in
    let in_names = λ (x : VarName) (h : Has names x). (known.named x).1 (a.sound_expr.1 x h).0 in
    rw e
    (ok_both c.over-in-Project.result (λ (t : Table). t.names ≡ names)
    (λ (t : Table). Tells (Has t.rows.items) (FromSome (IsRowOver u.names names) u.rows.items)) (λ (t : Table). IsTableOf q d n (project names g) t.names t.rows.items)
    (λ t same rows. rw same
    (record {
      ascending = c.over-in-Project.ensures.ascending;
      named = λ x. (λ h. h, λ h. h);
      listed = kept_listed (Answer (vars_of_lets q.lets n) (answers_of_lets q.lets d n) d g) u.names names u.rows.items (Has t.rows.items) in_names known.listed rows;
    }))
    c.over-in-Project.ensures.names c.over-in-Project.ensures.rows)

pub union_table-loop-k-init : goal.union_table-loop-k-init
union_table-loop-k-init t c =
    let q = query_of c.args.query.now in
    let d = c.args.doc.now in
    let n = length c.args.tables.now in
    let u = c.none-all.ensures in
    rw u.names
    (rw u.rows (none_table q d n))

pub union_table-expr_table-requires : goal.union_table-expr_table-requires
union_table-expr_table-requires t c =
    let es = exprs_of c.args.parts.now in
    let g = expr_of c.at.result.now in
    let has = Has-slice_get es c.loop-k.k g c.at.ensures in
    (omega (arith, part_size es g has), (c.requires.known, (asked_united (query_of c.args.query.now) (length c.args.tables.now) es g has c.requires.asked, c.requires.short)))

pub union_table-unite-requires : goal.union_table-unite-requires
union_table-unite-requires t c =
    let q = query_of c.args.query.now in
    let d = c.args.doc.now in
    let n = length c.args.tables.now in
    let es = exprs_of c.args.parts.now in
    let k = c.loop-k.k in
    let g = expr_of c.at.result.now in
    let V = vars_of_lets q.lets n in
    let A = answers_of_lets q.lets d n in
    let asked = asked_united q n es g (Has-slice_get es k g c.at.ensures) c.requires.asked in
    let left = c.loop-k.invariant in
    let right = c.in_ok-next.ensures in
    record {
      left = rows_of_table (VarOf V (union_all (take k es))) (Answer V A d (union_all (take k es))) c.loop-k.all.names c.loop-k.all.rows.items left;
      right = rows_of_table (VarOf V g) (Answer V A d g) c.in_ok-next.next.names c.in_ok-next.next.rows.items right;
      room = room_of q (Has c.in_ok-next.next.names) c.loop-k.all.names asked.sound
          (λ x h. united_var q n k es x c.requires.asked ((left.named x).0 h)) (λ x h. asked_var q n g x asked ((right.named x).0 h));
    }

pub union_table-loop-k-preserved : goal.union_table-loop-k-preserved
union_table-loop-k-preserved t c =
    union_next (query_of c.args.query.now) c.args.doc.now (length c.args.tables.now) (exprs_of c.args.parts.now) c.loop-k.k (expr_of c.at.result.now)
    c.loop-k.all.names c.in_ok-next.next.names c.in_ok-all.all.names
    c.loop-k.all.rows.items c.in_ok-next.next.rows.items c.in_ok-all.all.rows.items c.at.ensures c.loop-k.invariant c.in_ok-next.ensures
    c.in_ok-all.ensures.ascending c.in_ok-all.ensures.names c.in_ok-all.ensures.rows

pub union_table-returns : goal.union_table-returns
union_table-returns t c =
    let es = exprs_of c.args.parts.now in
    let e : c.loop-k.k ≡ length es = omega arith in
    rw (← (ap (λ k. take k es) e ∙ take-length es)) c.loop-k.invariant

pub join_table-loop-k-init : goal.join_table-loop-k-init
join_table-loop-k-init t c =
    let q = query_of c.args.query.now in
    let d = c.args.doc.now in
    let n = length c.args.tables.now in
    let u = c.in_ok-all.ensures in
    rw u.0
    (rw u.1 (unit_table q d n))

pub join_table-expr_table-requires : goal.join_table-expr_table-requires
join_table-expr_table-requires t c =
    let es = exprs_of c.args.parts.now in
    let g = expr_of c.at.result.now in
    let has = Has-slice_get es c.loop-k.k g c.at.ensures in
    (omega (arith, part_size es g has), (c.requires.known, (asked_joined (query_of c.args.query.now) (length c.args.tables.now) es g has c.requires.asked, c.requires.short)))

pub join_table-join-requires : goal.join_table-join-requires
join_table-join-requires t c =
    let q = query_of c.args.query.now in
    let d = c.args.doc.now in
    let n = length c.args.tables.now in
    let es = exprs_of c.args.parts.now in
    let k = c.loop-k.k in
    let g = expr_of c.at.result.now in
    let V = vars_of_lets q.lets n in
    let A = answers_of_lets q.lets d n in
    let asked = asked_joined q n es g (Has-slice_get es k g c.at.ensures) c.requires.asked in
    let left = c.loop-k.invariant in
    let right = c.in_ok-next.ensures in
    record {
      left = rows_of_table (VarOf V (join_all (take k es))) (Answer V A d (join_all (take k es))) c.loop-k.all.names c.loop-k.all.rows.items left;
      right = rows_of_table (VarOf V g) (Answer V A d g) c.in_ok-next.next.names c.in_ok-next.next.rows.items right;
      room = room_of q (Has c.in_ok-next.next.names) c.loop-k.all.names asked.sound
          (λ x h. joined_var q n k es x c.requires.asked ((left.named x).0 h)) (λ x h. asked_var q n g x asked ((right.named x).0 h));
    }

pub join_table-loop-k-preserved : goal.join_table-loop-k-preserved
join_table-loop-k-preserved t c =
    join_next (query_of c.args.query.now) c.args.doc.now (length c.args.tables.now) (exprs_of c.args.parts.now) c.loop-k.k (expr_of c.at.result.now)
    c.loop-k.all.names c.in_ok-next.next.names c.in_ok-all-2.all.names
    c.loop-k.all.rows.items c.in_ok-next.next.rows.items c.in_ok-all-2.all.rows.items c.at.ensures c.loop-k.invariant c.in_ok-next.ensures
    c.in_ok-all-2.ensures.ascending c.in_ok-all-2.ensures.names c.in_ok-all-2.ensures.rows

pub join_table-returns : goal.join_table-returns
join_table-returns t c =
    let es = exprs_of c.args.parts.now in
    let e : c.loop-k.k ≡ length es = omega arith in
    rw (← (ap (λ k. take k es) e ∙ take-length es)) c.loop-k.invariant

pub expr_table-less-requires-clause-whole : goal.expr_table-less-requires-clause-whole
expr_table-less-requires-clause-whole t c =
    let q = query_of c.args.query.now in
    let n = length c.args.tables.now in
    let g = expr_of c.deref-in-Minus.result.now in
    let u = c.in_ok-first-in-Minus.first in
    whole_rows (VarOf (vars_of_lets q.lets n) g) (Answer (vars_of_lets q.lets n) (answers_of_lets q.lets c.args.doc.now n) c.args.doc.now g) u.names u.rows.items c.in_ok-first-in-Minus.ensures

pub expr_table-returns-in_ok-second-in-Minus : goal.expr_table-returns-in_ok-second-in-Minus
expr_table-returns-in_ok-second-in-Minus t c =
    let q = query_of c.args.query.now in
    let d = c.args.doc.now in
    let n = length c.args.tables.now in
    let f = expr_of c.deref-in-Minus.result.now in
    let g = expr_of c.deref-in-Minus-2.result.now in
    let e : expr_of c.args.expr.now ≡ minus f g =
    ap expr_of c.in-Minus.is ∙ (expr_of-Minus c.in-Minus.left c.in-Minus.right ∙ (λ i. minus (expr_of (sym c.deref-in-Minus.ensures i)) (expr_of (sym c.deref-in-Minus-2.ensures i)))) in
    let a = subst (IsAsked q n) e c.requires.asked in
    let u = c.in_ok-first-in-Minus.first in
    let v = c.in_ok-second-in-Minus.second in
    rw e
    (ok_both c.less.result (λ (t : Table). t.names ≡ u.names) (λ (t : Table). Tells (Has t.rows.items) (IsLeft u.rows.items v.rows.items))
    (λ (t : Table). IsTableOf q d n (minus f g) t.names t.rows.items)
    (λ t same rows. rw same
    (left_table q d n f g u.names v.names u.rows.items v.rows.items t.rows.items c.in_ok-first-in-Minus.ensures c.in_ok-second-in-Minus.ensures a.sound_expr.2 rows))
    c.less.ensures.names c.less.ensures.rows)
