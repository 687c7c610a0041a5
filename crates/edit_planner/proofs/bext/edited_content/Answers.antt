use Rattle.std.proofs.Common.{◌∙◌}
use Rattle.edit_planner.proofs.BextChunk.{fine_fits, edited_small}
use Rattle.edit_planner.proofs.bext.edited_content.Goals as goal

pub edited_body-requires-clause-fit : goal.edited_body-requires-clause-fit
edited_body-requires-clause-fit c = fine_fits c.args.changes.now c.requires.fine

pub spell_chunk-requires : goal.spell_chunk-requires
spell_chunk-requires c = edited_small c.args.changes.now c.args.body.now c.as_slice.result.now c.requires.fine c.requires.long c.requires.small (c.as_slice.ensures ∙ c.in_ok-edited.ensures.edited)
