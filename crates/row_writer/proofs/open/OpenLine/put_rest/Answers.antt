use Rattle.std.proofs.Common.{◌≡◌, ◌+◌, length, take, sym, ap, ◌∙◌, arith}
use Rattle.std.specs.Fmt.{decimal}
use Rattle.std.proofs.lemmas.Fmt.{decimal_nonempty}
use Rattle.std.proofs.lemmas.List.{length-take-le}
use Rattle.row_writer.specs.Open.{Open}
use Rattle.row_writer.proofs.LastDigit.{rest_written}
use Rattle.row_writer.proofs.open.OpenLine.put_rest.Goals as goal

pub returns-clause-some : goal.returns-clause-some
returns-clause-some c = omega (arith, c.put_number-end.ensures.count, decimal_nonempty c.args.number (omega (arith, c.ranges.number.fits)))

pub returns-clause-text : goal.returns-clause-text
returns-clause-text c =
    let o = c.self.inside in
    let end = c.put_number-end.result in
    let b0 = c.args.bytes.now in
    let b2 = c.put_bytes-back.new.buffer in
    let before : length c.args.self.now.front ≡ o.front_len = sym (ap (λ (k : Open). length k.front) c.self.view_is) ∙ length-take-le o.front_len o.front (omega arith) in
    let behind : length c.args.self.now.back ≡ o.back_len = sym (ap (λ (k : Open). length k.back) c.self.view_is) ∙ length-take-le o.back_len o.back (omega arith) in
    ap (λ k. take (end + k) b2) behind
    ∙ rest_written o.front_len o.back_len end c.put_bytes-back.result b0 c.put_number-end.new.buffer b2 (decimal c.args.number) o.back
    (ap (λ k. take k b0) (sym before) ∙ c.requires.front) c.put_number-end.ensures.text c.put_bytes-back.ensures.text (omega arith) (omega arith) (ap (λ (k : Open). k.back) c.self.view_is)
