-- Where a form stands, as a map tells it.
use Rattle.std.proofs.Common.{◌≡◌, ◌∙◌, ℕ, ◌≤◌, Bool, List, [], ◌∷◌, take, sym, arith}
use Rattle.std.specs.Prelude.{Option, Some, None, is_some}
use Rattle.part_tree.specs.declared.part.Part.{Part}
use Rattle.rf64_ds64.specs.declared.Ds64.{Ds64}
use Rattle.wave_model.specs.Wave.{is_big}
use Rattle.wave_model.proofs.Why.{why_supported}
use Rattle.wave_file.specs.declared.map.WaveMap.{WaveMap}
use Rattle.wave_file.specs.Map.{Ascend, HasSizes, IsMapOf, IsSound}
use Rattle.wave_plan.specs.Frame.{IsFormOf, IsSoundForm}

big_is : (b : List ℕ) (o : Option Ds64) → HasSizes b o → is_some o ≡ is_big (take 4 b)
big_is b None h = sym h
big_is b (Some ds) h = sym h.0

ascend_low : (low : ℕ) (ps : List Part) (end : ℕ) → Ascend low ps end → low ≤ end
ascend_low low [] end h = h
ascend_low low (p ∷ ps) end h = omega (arith, h.0, h.1, h.2, ascend_low p.next ps end h.3)

pub form_mapped : (b : List ℕ) (m : WaveMap) (big : Bool) → big ≡ is_some m.ds64 → IsMapOf b m → IsFormOf b (record { big = big; len = m.len; end = m.form_end })
form_mapped b m big is h = record {
  supported = why_supported b h.supported;
  big = is ∙ big_is b m.ds64 h.sizes;
  len = h.len;
  end = h.form_end;
}

pub form_sound : (m : WaveMap) (big : Bool) → IsSound m → IsSoundForm (record { big = big; len = m.len; end = m.form_end })
form_sound m big h = record { small = h.small; low = ascend_low 12 m.parts.items m.form_end h.parts_ascend; inside = h.form_inside }
