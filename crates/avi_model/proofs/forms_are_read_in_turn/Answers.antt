use Rattle.avi_model.proofs.Turns.{forms_spell, lists_spell, form_ahead, no_form, form_cut}
use Rattle.avi_model.proofs.forms_are_read_in_turn.Goals as goal

pub returns : goal.returns
returns c = record { forms = forms_spell; lists = lists_spell; next = form_ahead; last = no_form; cut = form_cut }
