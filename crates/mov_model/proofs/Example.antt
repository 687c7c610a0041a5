-- The premises of the laws are met: a worked movie is supported by its tests, and its edit is the worked one by the law.
use Rattle.std.proofs.Common.{◌≡◌, ℕ, zero, suc, Bool, true, ltb, List, [], ◌∷◌, None, refl, subst, arith}
use Rattle.std.specs.Prelude.{◌&&◌}
use Rattle.std.specs.Str.{is_utf8, chars}
use Rattle.std.proofs.lemmas.Bool.{ltb-true, and_parts}
use lib.Utf8.{encode}
use Rattle.me_bytes.specs.Bytes.{IsBytes}
use Rattle.part_tree.specs.declared.field.RuleSet.TheVariants.{Base}
use Rattle.part_tree.specs.declared.names.Kind.TheVariants.{Mov}
use Rattle.field_model.specs.Broken.{broken}
use Rattle.container_model.specs.Chunk.{read, chunks}
use Rattle.field_model.specs.Kind.{Edited}
use Rattle.mov_model.specs.Edited.{fields}
use Rattle.mov_model.specs.Kind.{narrow_kind}
use Rattle.mov_model.proofs.AsKind.{is_kind}
use Rattle.mov_model.proofs.Rows.{reel, reel_named, set, big, fine_reel, named_in_place, not_too_large}

abbrev all_below : List ℕ → Bool
all_below [] = true
all_below (x ∷ b) = ltb x 256 && all_below b

are_bytes : (b : List ℕ) → all_below b ≡ true → IsBytes b
are_bytes [] e i = omega arith
are_bytes (x ∷ b) e zero = ltb-true _ _ (and_parts (ltb x 256) (all_below b) e).0
are_bytes (x ∷ b) e (suc i) = are_bytes b (and_parts (ltb x 256) (all_below b) e).1 i

keeps_rules : broken Mov 0 (fields reel) (set big) Base ≡ None
unfolding read chunks is_utf8 chars encode
keeps_rules = refl

pub edited : Edited narrow_kind reel (set big) reel_named
edited = subst (Edited narrow_kind reel (set big)) named_in_place (is_kind.edited reel (set big) (are_bytes reel refl) fine_reel keeps_rules not_too_large)
