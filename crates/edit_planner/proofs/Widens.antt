-- What a map tells of a form that becomes RF64.
use Rattle.std.proofs.Common.{◌≡◌, ◌∙◌, ℕ, ◌+◌, ◌^◌, Bool, true, false, cond, List, [], ◌∷◌, ◌++◌, length, map, take, refl, sym, ap, subst}
use Rattle.std.specs.Prelude.{Option, Some, None, ◌&&◌, nat_le, codes}
use Rattle.std.specs.Str.{bytes_eq}
use Rattle.std.specs.List.{AllByRecursion}
use Rattle.std.proofs.lemmas.Bool.{cond-false, cond-true}
use Rattle.part_tree.specs.declared.names.Span.{Span}
use Rattle.part_tree.specs.declared.part.Part.{Part}
use Rattle.part_tree.specs.Large.{first_above}
use Rattle.field_model.specs.Update.{RawItem, raw_items}
use Rattle.container_model.specs.Chunk.{Form, Chunk, spell, spell_all}
use Rattle.container_model.specs.Walk.{along}
use Rattle.container_model.proofs.Codec.{IsBytes}
use Rattle.carrier_model.specs.Info.{own_size}
use Rattle.wave_model.specs.Wave.{is_big, Wave, wave_of}
use Rattle.wave_model.specs.Fields.{bodies, fields, is_info}
use Rattle.wave_model.specs.Edited.{Supported, block_size, first_size, formats}
use Rattle.wave_model.specs.Map.{align, sound, sound_from}
use Rattle.wave_model.specs.New.{children_at, new_children}
use Rattle.wave_model.specs.Why.{is_data}
use Rattle.wave_model.specs.Widen.{reserved}
use Rattle.wave_model.proofs.New.{ListsSmall, body_sizes, none_above}
use Rattle.wave_model.proofs.Values.{ItemsFine}
use Rattle.wave_model.proofs.Why.{why_supported}
use Rattle.wave_model.proofs.Widened.{PlainChunk, no_ds64, old_plain}
use Rattle.wave_file.specs.declared.map.WaveMap.{WaveMap}
use Rattle.wave_file.specs.Map.{IsMapOf, all_parts, part_at, sizes_at, sound_at}
use Rattle.wave_plan.specs.Widened.{IsReserved, IsWideningOf}
use Rattle.edit_planner.specs.Places.{list_sizes}
use Rattle.edit_planner.specs.Plan.{reserved_in, widening_in}

first_sound : (at : ℕ) (cs : List Chunk) (s : Span) → s ∷ [] ≡ along sound_at at cs → s ≡ sound_from at cs
first_sound at [] s h = absurd cc
first_sound at (c ∷ cs) s h = go (is_data c) refl (first_sound (at + length (spell c)) cs s)
  where
    head : (x y : Span) (xs ys : List Span) → x ∷ xs ≡ y ∷ ys → x ≡ y
    head x y xs ys e = cc

    go : (t : Bool) → is_data c ≡ t → (s ∷ [] ≡ along sound_at (at + length (spell c)) cs → s ≡ sound_from (at + length (spell c)) cs) → s ≡ sound_from at (c ∷ cs)
    go true i again =
        let b : Span = record { at = at + 8; len = length c.body } in
        let more = along sound_at (at + length (spell c)) cs in
        let here : s ∷ [] ≡ b ∷ more = h ∙ ap (λ (x : List Span). x ++ more) (cond-true (is_data c) (b ∷ []) [] i) in
        head s b [] more here ∙ sym (cond-true (is_data c) b (sound_from (at + length (spell c)) cs) i)
    go false i again =
        let b : Span = record { at = at + 8; len = length c.body } in
        let more = along sound_at (at + length (spell c)) cs in
        again (h ∙ ap (λ (x : List Span). x ++ more) (cond-false (is_data c) (b ∷ []) [] i)) ∙ sym (cond-false (is_data c) b (sound_from (at + length (spell c)) cs) i)

first_block : (n : ℕ) (fs : List (List ℕ)) → n ∷ [] ≡ map block_size fs → n ≡ first_size fs
first_block n [] h = absurd cc
first_block n (f ∷ fs) h = head n (block_size f) [] (map block_size fs) h
  where
    head : (x y : ℕ) (xs ys : List ℕ) → x ∷ xs ≡ y ∷ ys → x ≡ y
    head x y xs ys e = cc

module _ (b : List ℕ) (bytes : IsBytes b) (m : WaveMap) (h : IsMapOf b m) (e : List RawItem) (f : ItemsFine e) (none : first_above (list_sizes b e) ≡ None) where
  small : ListsSmall (wave_of b) e
  small = body_sizes (bodies is_info (new_children (wave_of b) e)) (none_above (list_sizes b e) none)

  room : is_big (take 4 b) ≡ false → IsReserved (reserved (wave_of b).children) (reserved_in m.parts.items)
  room narrow = subst (λ (ps : List Part). IsReserved (reserved w.children) (reserved_in ps)) (sym parts_are) (go w.children (old_plain b bytes sup narrow e f small))
    where
      w : Wave
      w = wave_of b

      sup : Supported b
      sup = why_supported b h.supported

      parts_are : m.parts.items ≡ along part_at 12 w.children
      parts_are =
          h.parts ∙ ap (λ (ds : List Chunk). along sizes_at 12 ds ++ along part_at (children_at w) w.children) (no_ds64 b bytes sup narrow)
          ∙ ap (λ (ds : List Chunk). along part_at (8 + length (codes "WAVE" ++ spell_all ds)) w.children) (no_ds64 b bytes sup narrow)

      one : (c : Chunk) (t : Bool) → IsReserved (cond t (c ∷ []) []) (cond t (Some (length c.body)) None)
      one c true = (c, refl, refl)
      one c false = refl

      go : (cs : List Chunk) → AllByRecursion PlainChunk cs → IsReserved (reserved cs) (reserved_in (along part_at 12 cs))
      go [] p = refl
      go (c ∷ cs) p =
          let range = nat_le 28 (length c.body) && nat_le (length c.body) (2 ^ 24) in
          subst (λ (g : Form). IsReserved (cond ((own_size g && bytes_eq c.id (codes "JUNK")) && range) (c ∷ []) []) (cond (bytes_eq c.id (codes "JUNK") && range) (Some (length c.body)) None)) (sym p.0.form_is)
          (one c (bytes_eq c.id (codes "JUNK") && range))

  pub widening_known : IsWideningOf b (widening_in m)
  widening_known = record { room = room; sound_is = first_sound (children_at (wave_of b)) (wave_of b).children m.sound h.sound; align_is = first_block m.align (formats (wave_of b).children) h.align }
