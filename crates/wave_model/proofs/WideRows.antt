-- Worked files: BW64, and forms made RF64.
use Rattle.std.proofs.Common.{◌≡◌, ℕ, List, [], ◌∷◌, ◌++◌, length, drop, replicate, Some, None, true, refl}
use Rattle.std.specs.Prelude.{codes}
use Rattle.part_tree.specs.Letters.{four}
use Rattle.part_tree.specs.declared.field.Change.TheVariants.{Set}
use Rattle.part_tree.specs.declared.field.EditItem.{EditItem}
use Rattle.part_tree.specs.declared.field.FieldName.TheVariants.{Whole}
use Rattle.part_tree.specs.declared.names.Kind.TheVariants.{Bw64}
use Rattle.part_tree.specs.declared.why.Why.TheVariants.{NoDs64}
use Rattle.container_model.specs.Chunk.{read, chunks}
use Rattle.container_model.specs.Units.{units}
use Rattle.wave_model.specs.Wave.{kind_of, wave_of, spell_wave}
use Rattle.wave_model.specs.Why.{why}
use Rattle.wave_model.specs.Widen.{reserved, widened_wave, file_after, large_after, room_after}
use Rattle.wave_model.specs.Twin.{twin}
use Rattle.wave_model.proofs.Rows.{short_sound, rf64, rf64_titled, set_title}

-- ---- BW64

bw64_kind : kind_of (twin rf64) ≡ Bw64
bw64_kind = refl

bw64_title_new : file_after (twin rf64) set_title ≡ codes "BW64" ++ drop 4 rf64_titled
unfolding file_after units chunks read
bw64_title_new = refl

bw64_title_room : room_after (twin rf64) set_title ≡ true
unfolding units chunks read
bw64_title_room = refl

-- `chna` before `data`, and `axml` behind it
with_chna : ℕ → List ℕ → List ℕ
with_chna size more =
    codes "BW64"
    ++ ((255 ∷ 255 ∷ 255 ∷ 255 ∷ [])
    ++ (codes "WAVEds64"
    ++ ((28 ∷ 0 ∷ 0 ∷ 0 ∷ size ∷ [])
    ++ (replicate 7 0
    ++ ((4 ∷ [])
    ++ (replicate 7 0
    ++ ((2 ∷ [])
    ++ (replicate 11 0
    ++ (codes "fmt "
    ++ ((16 ∷ 0 ∷ 0 ∷ 0 ∷ 1 ∷ 0 ∷ 1 ∷ 0 ∷ 68 ∷ 172 ∷ 0 ∷ 0 ∷ 136 ∷ 88 ∷ 1 ∷ 0 ∷ 2 ∷ 0 ∷ 16 ∷ 0 ∷ [])
    ++ (codes "chna" ++ ((44 ∷ 0 ∷ 0 ∷ 0 ∷ []) ++ (replicate 44 7 ++ (codes "data" ++ ((255 ∷ 255 ∷ 255 ∷ 255 ∷ 1 ∷ 2 ∷ 3 ∷ 4 ∷ []) ++ more)))))))))))))))

set_axml : List EditItem
set_axml = record { name = Whole (four (codes "axml")); change = Set (codes "<a/>") } ∷ []

chna_length : length (with_chna 128 []) ≡ 136
unfolding with_chna
chna_length = refl

chna_stays : file_after (with_chna 128 []) set_axml ≡ with_chna 140 (codes "axml" ++ ((4 ∷ 0 ∷ 0 ∷ 0 ∷ []) ++ codes "<a/>"))
unfolding with_chna set_axml file_after units chunks read
chna_stays = refl

no_ds64 : why (codes "BW64" ++ ((255 ∷ 255 ∷ 255 ∷ 255 ∷ []) ++ (codes "WAVEJUNK" ++ drop 16 rf64))) ≡ Some NoDs64
unfolding why chunks read
no_ds64 = refl

-- ---- a form made RF64

-- ds64 is new where no JUNK is reserved
widened_new : spell_wave (widened_wave (reserved (wave_of short_sound).children) (wave_of short_sound)) ≡ rf64
unfolding chunks read
widened_new = refl

-- the same file with a JUNK of so many bytes behind its type
with_junk : ℕ → ℕ → List ℕ
with_junk size len = codes "RIFF" ++ ((size ∷ 0 ∷ 0 ∷ 0 ∷ []) ++ (codes "WAVEJUNK" ++ ((len ∷ 0 ∷ 0 ∷ 0 ∷ []) ++ (replicate len 9 ++ drop 12 short_sound))))

-- a reserved JUNK becomes ds64
widened_over : spell_wave (widened_wave (reserved (wave_of (with_junk 76 28)).children) (wave_of (with_junk 76 28))) ≡ rf64
unfolding with_junk chunks read
widened_over = refl

-- a shorter one stays behind the new ds64
junk_behind : drop 48 (spell_wave (widened_wave (reserved (wave_of (with_junk 74 26)).children) (wave_of (with_junk 74 26)))) ≡ codes "JUNK" ++ ((26 ∷ 0 ∷ 0 ∷ 0 ∷ []) ++ (replicate 26 9 ++ drop 48 rf64))
unfolding with_junk chunks read
junk_behind = refl

title_not_large : large_after short_sound set_title ≡ None
unfolding units chunks read
title_not_large = refl
