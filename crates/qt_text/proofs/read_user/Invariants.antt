use Rattle.std.proofs.Common.{◌≡◌, ◌≤◌, ◌-◌, length, drop}
use Rattle.qt_text.proofs.Texts.{all_texts, texts_with}
use Rattle.qt_text.proofs.read_user.Given as goal

-- the texts that were read and those that are left are all of them
abbrev pub invariant-texts : goal.invariant-texts
invariant-texts l = record {
  inside : l.at ≤ length l.body;
  left : texts_with l.texts.items (all_texts (drop l.at l.body)) ≡ all_texts l.body;
}

abbrev pub decreases-texts : goal.decreases-texts
decreases-texts l = length l.body - l.at
