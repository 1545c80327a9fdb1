use Rattle.std.proofs.Common.{rules, arith, ap, ◌≡◌, ◌+◌, ◌≤◌, ◌∙◌, take, length}
use Rattle.std.proofs.lemmas.List.{length-take-le}
use Rattle.rm_outside.proofs.Known.{in_place, resized_front}
use Rattle.rm_outside.proofs.line_input.read_onto.Goals as goal

pub returns-in-Ok-clause-read : goal.returns-in-Ok-clause-read
returns-in-Ok-clause-read g c =
    let part = c.read.new.buffer in
    let count = c.in-Ok.count in
    let bound : count ≤ length part = search rules in
    let size : length part ≡ c.args.most = search rules in
    let start = c.len-start.result in
    let old : length c.args.into.now.items ≡ start = search rules in
    let front : take start c.as_mut_slice.result.now ≡ c.args.into.now.items =
    ap (take start) (c.as_mut_slice.ensures.value ∙ c.resize.ensures.items) ∙ resized_front _ start (start + c.args.most) c.args.into.now.items _ old (omega arith) in
    let len : c.resize.new.self.len ≡ start + c.args.most = search rules in
    record {
      bytes = take count part;
      appended = c.truncate.ensures.items
          ∙ in_place start count c.resize.new.self.len c.args.into.now.items c.as_mut_slice.result.now part _ _ front old bound (omega (arith, len, bound, size));
      counted = length-take-le count part bound;
      few = omega (arith, bound, size);
      consumed = c.in-Ok.ensures.bytes.0;
      ended = λ none. c.in-Ok.ensures.bytes.1 none (omega (arith, size, c.requires.some));
    }
