use Rattle.spanner_model.proofs.FunctionalLaws.{query_sound, query_sure, query_answers}
use Rattle.spanner_model.proofs.laws.functional_queries_are_as_before.Goals as goal

pub returns : goal.returns
returns c = record { are_sound = query_sound; all_are_sure = query_sure; same_answers = query_answers }
