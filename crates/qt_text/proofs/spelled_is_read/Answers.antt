use Rattle.qt_text.proofs.User.{texts_read}
use Rattle.qt_text.proofs.Texts.{spelled_texts}
use Rattle.qt_text.proofs.spelled_is_read.Goals as goal

pub returns-clause-read : goal.returns-clause-read
returns-clause-read c = texts_read

pub returns-clause-spelled : goal.returns-clause-spelled
returns-clause-spelled c = spelled_texts
