-- The tests of a chunk in three groups: by its header, of its essence, and of its inside.
use Rattle.std.specs.Prelude.{ℕ, ◌+◌, ◌^◌, nat_lt, List, [], ◌∷◌, length, Bool, ◌&&◌, not, codes}
use Rattle.std.specs.Str.{bytes_eq}
use Rattle.part_tree.specs.declared.why.Why.{Why}
use Rattle.part_tree.specs.declared.why.Why.TheVariants.{Truncated, ShortFmt, TwoFmt, BlockZero, TwoData, ShortBext, TwoBext, CarrierBig, TooManyParts}
use Rattle.part_tree.specs.Letters.{four}
use Rattle.container_model.specs.Chunk.{Chunk, spell_all}
use Rattle.carrier_model.specs.Info.{list_run}
use Rattle.wave_model.specs.Fields.{is_info}
use Rattle.wave_model.specs.Edited.{block_size, parts_of}
use Rattle.wave_model.specs.Why.{Seen, is_fmt, is_data}
use Rattle.container_model.specs.Tests.{ended}

abbrev pub early_tests : Seen → List ℕ → ℕ → Bool → Bool → List (Bool × Why)
early_tests s id len carrier bext =
    (nat_lt 65536 (s.parts + 1), TooManyParts)
    ∷ ((carrier && nat_lt (2 ^ 24) len, CarrierBig (four id) len)
    ∷ ((bext && nat_lt 0 s.bexts, TwoBext)
    ∷ ((bext && nat_lt len 602, ShortBext len)
    ∷ ((bytes_eq (codes "fmt ") id && nat_lt 0 s.formats, TwoFmt)
    ∷ ((bytes_eq (codes "fmt ") id && nat_lt len 16, ShortFmt len) ∷ [])))))

abbrev pub essence_tests : Seen → Chunk → List (Bool × Why)
essence_tests s c =
    (is_fmt c && nat_lt (block_size c.body) 1, BlockZero)
    ∷ ((is_data c && nat_lt 0 s.sounds, TwoData) ∷ [])

abbrev pub late_tests : ℕ → ℕ → Chunk → List (Bool × Why)
late_tests at parts c =
    (is_info c && not (ended (list_run c).stop), Truncated (at + 12 + length (spell_all (list_run c).chunks)))
    ∷ ((nat_lt 65536 (parts + length (parts_of c)), TooManyParts) ∷ [])
