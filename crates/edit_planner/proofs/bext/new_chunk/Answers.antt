use Rattle.std.proofs.Common.{◌∙◌}
use Rattle.edit_planner.proofs.BextChunk.{fine_fits, new_small}
use Rattle.edit_planner.proofs.bext.new_chunk.Goals as goal

pub new_edited_body-requires : goal.new_edited_body-requires
new_edited_body-requires c = fine_fits c.args.changes.now c.requires.fine

pub spell_chunk-requires : goal.spell_chunk-requires
spell_chunk-requires c = new_small c.args.changes.now c.as_slice.result.now c.requires.fine (c.as_slice.ensures ∙ c.in_ok-body.ensures.edited)
