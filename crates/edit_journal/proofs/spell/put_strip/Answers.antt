use Rattle.std.proofs.Common.{◌≡◌, ◌++◌, ◌∷◌, [], List, ℕ, ap, ◌∙◌, take}
use Rattle.std.specs.Prelude.{if◌then◌else◌}
use Rattle.edit_journal.proofs.Spelled.{strip_put}
use Rattle.edit_journal.proofs.spell.put_strip.Goals as goal

pub returns : goal.returns
returns c =
    let kind : c.extend_from_slice.new.self.items ≡ c.put_le32.new.out.items ++ (if c.args.run then 1 else 0) ∷ [] =
    c.in_ok-extend_from_slice.ensures.items ∙ ap (λ (k : ℕ). c.put_le32.new.out.items ++ k ∷ []) c.kind_of.ensures in
    let told : c.extend_from_slice-2.new.self.items ≡ c.extend_from_slice.new.self.items ++ (if c.args.run then take 1 c.args.bytes.now else c.args.bytes.now) =
    c.in_ok-extend_from_slice-2.ensures.items ∙ ap (λ (l : List ℕ). c.extend_from_slice.new.self.items ++ l) c.told_of.ensures in
    strip_put c.args.out.now.items c.put_le64.new.out.items c.put_le32.new.out.items c.extend_from_slice.new.self.items c.extend_from_slice-2.new.self.items c.args.at c.args.bytes.now c.args.run c.requires.some
    c.in_ok-put_le64.ensures.ok c.in_ok-put_le32.ensures.ok kind told
