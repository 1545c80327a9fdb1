use Rattle.std.proofs.Common.{◌∙◌, map, string_bytes}
use Rattle.clap.specs.Words.{app_of}
use Rattle.command_line.proofs.Meaning.{found_by, taken_by, refused_by}
use Rattle.command_line.proofs.command.matches_in.Goals as goal

pub returns-in-Ok-try_get_matches_from-clause-ok :
    goal.returns-in-Ok-try_get_matches_from-clause-ok
returns-in-Ok-try_get_matches_from-clause-ok c =
    found_by (app_of c.in-Ok.command) (map string_bytes c.args.words.now) c.in-Ok-try_get_matches_from.matches c.in-Ok.ensures c.in-Ok-try_get_matches_from.ensures.matches

pub returns-in-Ok-try_get_matches_from-clause-taken :
    goal.returns-in-Ok-try_get_matches_from-clause-taken
returns-in-Ok-try_get_matches_from-clause-taken c =
    taken_by (app_of c.in-Ok.command) (map string_bytes c.args.words.now) c.in-Ok-try_get_matches_from.matches c.in-Ok.ensures c.in-Ok-try_get_matches_from.ensures.kinds

pub returns : goal.returns
returns c = record {
  ok = tt;
  taken = tt;
  refused = λ _. refused_by (app_of c.in-Ok.command) (map string_bytes c.args.words.now) c.in-Err-try_get_matches_from.error c.in-Ok.ensures c.in-Err-try_get_matches_from.ensures.kinds
      (λ same. c.in_default.not-OutOfMemory (c.kind.ensures ∙ same));
}
