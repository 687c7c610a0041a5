use Rattle.std.proofs.Common.{◌≡◌, ◌≤◌, ◌<◌, ◌-◌, List, length, drop}
use Rattle.part_tree.specs.declared.field.Value.{Value}
use Rattle.qt_text.proofs.Texts.{all_texts, texts_with}
use Rattle.mov_plan.proofs.user.has_texts.Given as goal

-- texts were met, one behind the other, and what is left may be more of them
abbrev pub invariant-texts : goal.invariant-texts
invariant-texts l = record {
  inside : l.at ≤ length l.body;
  left : (ts : List Value) × (texts_with ts (all_texts (drop l.at l.body)) ≡ all_texts l.body) × (0 < l.at → 0 < length ts) × (l.at ≡ 0 → length ts ≡ 0);
}

abbrev pub decreases-texts : goal.decreases-texts
decreases-texts l = length l.body - l.at
