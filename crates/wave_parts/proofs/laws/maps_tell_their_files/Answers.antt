use Rattle.std.proofs.Common.{◌≡◌, ℕ, ◌+◌, Bool, true, false, List, [], ◌∷◌, ◌++◌, length, refl, ap, Some, cond}
use Rattle.part_tree.specs.declared.names.Span.{Span}
use Rattle.container_model.specs.Chunk.{Chunk, spell}
use Rattle.container_model.specs.Walk.{along}
use Rattle.wave_model.specs.Map.{body_span, sound, sound_from}
use Rattle.wave_model.specs.New.{children_at}
use Rattle.wave_model.specs.Wave.{wave_of}
use Rattle.wave_model.specs.Why.{is_data}
use Rattle.wave_file.specs.Map.{sound_at}
use Rattle.wave_parts.proofs.laws.maps_tell_their_files.Goals as goal

first_one : {X : Type 0} {x y : X} {xs : List X} → x ∷ [] ≡ y ∷ xs → x ≡ y
first_one {X} {x} e = ap first e
  where
    first : List X → X
    first [] = x
    first (z ∷ zs) = z

-- the one sound that is told is the first
first_sound : (at : ℕ) (cs : List Chunk) (s : Span) → s ∷ [] ≡ along sound_at at cs → s ≡ sound_from at cs
first_sound at [] s e = absurd cc
first_sound at (c ∷ cs) s e = go (is_data c) e (first_sound (at + length (spell c)) cs s)
  where
    go : (t : Bool) → s ∷ [] ≡ cond t (record { at = at + 8; len = length c.body } ∷ []) [] ++ along sound_at (at + length (spell c)) cs
        → (s ∷ [] ≡ along sound_at (at + length (spell c)) cs → s ≡ sound_from (at + length (spell c)) cs) → s ≡ cond t (body_span at c) (sound_from (at + length (spell c)) cs)
    go true e more = first_one e
    go false e more = more e

pub returns : goal.returns
returns c b m parts is told =
    let same : m.sound ≡ sound b = first_sound (children_at (wave_of b)) (wave_of b).children m.sound is.sound in
    record {
      supported = is.supported;
      kind = is.kind;
      fields = is.field_values;
      streams = refl;
      parts = told;
      essence = ap (λ (s : Span). s ∷ []) same;
      hashed = ap Some same;
      entries = refl;
      tracks = refl;
    }
