use Rattle.std.proofs.Common.{rules, ◌≡◌, ◌∙◌}
use Rattle.metaedit_top.specs.Started.{file_in}
use Rattle.metaedit_top.proofs.FileWord.{asked_file}
use Rattle.metaedit_top.proofs.started.file_of.Goals as goal

pub returns-in-len2-up-clause-asked : goal.returns-in-len2-up-clause-asked
returns-in-len2-up-clause-asked c = λ q is.
    let same : c.as_str.result.now ≡ file_in c.args.words.now = search rules in
    same ∙ asked_file c.args.words.now q is
