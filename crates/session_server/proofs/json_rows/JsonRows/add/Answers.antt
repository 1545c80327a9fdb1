use Rattle.std.proofs.Common.{arith, ◌≡◌, ◌≤◌, ◌∙◌, ◌+◌, ◌-◌, ℕ, false, List, [], ◌∷◌, ◌++◌, length, take, drop, refl, sym, ap, append_assoc}
use Rattle.std.proofs.lemmas.List.{take_at}
use Rattle.serde_json.specs.Written.{compact_text}
use Rattle.row_writer.specs.Kept.{Line, kept_text}
use Rattle.row_writer.proofs.KeptLaws.{bare_room, json_heads_length}
use Rattle.session_server.specs.Replies.{row_data}
use Rattle.session_server.proofs.RowTexts.{front_of, row_line, without_end}
use Rattle.session_server.proofs.json_rows.JsonRows.add.Goals as goal

pub overflow_add-start : goal.overflow_add-start
overflow_add-start c =
    let room = bare_room false c.args.self.now.line.heads c.args.spans.now refl c.requires.lengths in
    omega (arith, room, c.args.self.now.few, c.requires.lengths, c.room-room.ensures, c.len-start.ensures, c.push.new.self.small)

pub returns-clause-text : goal.returns-clause-text
returns-clause-text c = λ names is.
    let spans = c.args.spans.now in
    let document = c.args.document.now in
    let before = c.push.new.self.items in
    let room = c.resize.new.self in
    let bytes = c.put-end.new.buffer in
    let start = c.len-start.result in
    let row = compact_text (row_data names spans) in
    let lengths : length spans ≡ length names = c.requires.lengths ∙ ap (λ (l : Line). length l.heads) is ∙ json_heads_length names in
    let line : kept_text c.args.self.now.line spans document false ≡ row ++ 10 ∷ [] = ap (λ (l : Line). kept_text l spans document false) is ∙ row_line names spans document lengths in
    let front : take start c.as_mut_slice.result.now ≡ before =
    ap (take start) (c.as_mut_slice.ensures.value ∙ c.in_ok-resize.ensures.items) ∙ front_of before _ start (start + c.room-room.result) (omega (arith, c.len-start.ensures)) (omega arith) in
    let written : take c.put-end.result bytes ≡ (before ++ row) ++ 10 ∷ [] =
    c.put-end.ensures.text ∙ ap (λ (t : List ℕ). t ++ kept_text c.args.self.now.line spans document false) front ∙ ap (λ (t : List ℕ). before ++ t) line ∙ sym (append_assoc before row (10 ∷ [])) in
    let long : length bytes ≡ room.len = omega arith in
    let whole : take room.len (bytes ++ drop (length bytes) room.items) ≡ bytes = take_at bytes (drop (length bytes) room.items) room.len long in
    let within : c.put-end.result ≤ length bytes = omega (arith, long, c.in_ok-resize.ensures.len, c.as_mut_slice.ensures.len, c.put-end.ensures.end, c.room-room.ensures) in
    c.truncate.ensures.items ∙ ap (take (c.put-end.result - 1)) whole ∙ without_end bytes (before ++ row) c.put-end.result 10 within written
    ∙ ap (λ (t : List ℕ). t ++ row) c.in_ok-push.ensures.items ∙ append_assoc c.args.self.now.text.items (c.sign_after-sign.result ∷ []) row
    ∙ ap (λ (s : ℕ). c.args.self.now.text.items ++ s ∷ row) (c.sign_after-sign.ensures ∙ ap Rattle.session_server.specs.Rows.sign_behind c.as_slice.ensures.value)
