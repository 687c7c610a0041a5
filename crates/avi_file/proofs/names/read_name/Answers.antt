use Rattle.std.proofs.Common.{◌∙◌, ap}
use Rattle.field_model.specs.Fields.{plain}
use Rattle.avi_model.specs.Map.{bytes_in}
use Rattle.avi_file.proofs.Named.{name_added, name_only}
use Rattle.avi_file.proofs.names.read_name.Goals as goal

pub returns-in-Ok-add-clause-name : goal.returns-in-Ok-add-clause-name
returns-in-Ok-add-clause-name g c b holds = name_added c.args.fields.now c.add.new.self c.args.stream (record { lang = 0; raw = c.in-Ok.raw }) (bytes_in b c.args.name) (ap plain (c.in-Ok.ensures.bytes b holds)) c.in-Ok-add.ensures.ok

pub returns-in-Ok-add-clause-only : goal.returns-in-Ok-add-clause-only
returns-in-Ok-add-clause-only g c = name_only c.args.fields.now c.add.new.self c.args.stream (record { lang = 0; raw = c.in-Ok.raw }) c.in-Ok-add.ensures.ok
