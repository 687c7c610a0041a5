use Rattle.wave_model.proofs.Spans.{file_spliced, spans_ascend}
use Rattle.wave_model.proofs.new_file_is_spliced.Goals as goal

pub returns : goal.returns
returns c = record { spliced = λ o e b s. file_spliced o e b s; ascend = λ o e b s. spans_ascend o e b s }
