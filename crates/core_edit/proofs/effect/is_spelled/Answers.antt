use Rattle.core_edit.specs.Shown.{text_of}
use Rattle.core_edit.proofs.Effects.{info_shows, stream_shows, whole_shows}
use Rattle.core_edit.proofs.effect.is_spelled.Goals as goal

pub returns-in-Info : goal.returns-in-Info
returns-in-Info c =
    info_shows c.args.version c.args.name.now c.in-Info.field-0 (text_of c.args.found.now) c.args.text.now c.before_zero.result.now c.is.result c.in-Info.is c.is.ensures c.before_zero.ensures

pub returns-in-Whole : goal.returns-in-Whole
returns-in-Whole c =
    whole_shows c.args.version c.args.name.now c.in-Whole.id (text_of c.args.found.now) c.args.text.now c.is_spelled_whole.result c.in-Whole.is c.is_spelled_whole.ensures

pub returns-in-Stream : goal.returns-in-Stream
returns-in-Stream c =
    stream_shows c.args.version c.args.name.now c.in-Stream.field-0 (text_of c.args.found.now) c.args.text.now c.before_zero-in-Stream.result.now c.is-in-Stream.result c.in-Stream.is c.is-in-Stream.ensures c.before_zero-in-Stream.ensures
