-- The premises of the law are met: a description set in the worked files of WAVE and RF64.
use Rattle.std.proofs.Common.{◌≡◌, ℕ, zero, suc, true, ltb, List, [], ◌∷◌, None, refl, arith}
use Rattle.std.specs.List.{list_all}
use Rattle.std.proofs.lemmas.Bool.{and_parts, ltb-true}
use Rattle.part_tree.specs.declared.field.RuleSet.TheVariants.{Base}
use Rattle.field_model.specs.Broken.{broken}
use Rattle.container_model.specs.Chunk.{read, chunks}
use Rattle.container_model.specs.Units.{units}
use Rattle.container_model.proofs.Codec.{IsBytes}
use Rattle.wave_model.specs.Wave.{kind_of}
use Rattle.wave_model.specs.Fields.{fields}
use Rattle.wave_model.specs.New.{new_file}
use Rattle.wave_model.specs.Edited.{Edited}
use Rattle.wave_model.specs.Large.{too_large}
use Rattle.wave_model.proofs.Law.{edited_law}
use Rattle.wave_model.proofs.Why.{why_supported}
use Rattle.wave_model.proofs.Rows.{short_sound, set_description, rf64, supported_short, supported_rf64}

are_bytes : (b : List ℕ) → list_all (λ x. ltb x 256) b ≡ true → IsBytes b
are_bytes [] h i = omega arith
are_bytes (x ∷ b) h zero = ltb-true x 256 (and_parts (ltb x 256) (list_all (λ x. ltb x 256) b) h).0
are_bytes (x ∷ b) h (suc i) = are_bytes b (and_parts (ltb x 256) (list_all (λ x. ltb x 256) b) h).1 i

description_allowed : broken (kind_of short_sound) 0 (fields short_sound) set_description Base ≡ None
unfolding chunks read
description_allowed = refl

description_small : too_large short_sound set_description ≡ None
unfolding units chunks read
description_small = refl

description_edited : Edited short_sound set_description (new_file short_sound set_description)
description_edited = edited_law short_sound set_description (are_bytes short_sound refl) (why_supported short_sound supported_short) description_allowed description_small

rf64_allowed : broken (kind_of rf64) 0 (fields rf64) set_description Base ≡ None
unfolding chunks read
rf64_allowed = refl

rf64_small : too_large rf64 set_description ≡ None
unfolding units chunks read
rf64_small = refl

rf64_edited : Edited rf64 set_description (new_file rf64 set_description)
rf64_edited = edited_law rf64 set_description (are_bytes rf64 refl) (why_supported rf64 supported_rf64) rf64_allowed rf64_small
