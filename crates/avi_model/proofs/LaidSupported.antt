-- The new file is supported, where no size and no number is too large.
use Rattle.std.proofs.Common.{ℕ, ◌≤◌, List, ◌++◌, length, sym, ap, subst, arith}
use Rattle.std.specs.List.{AllByRecursion}
use Rattle.me_bytes.specs.Bytes.{IsBytes}
use Rattle.container_model.specs.Stood.{Stood}
use Rattle.avi_model.specs.Avi.{Avi, spell_avi, hdrls, strls}
use Rattle.avi_model.specs.Support.{ListEnds, infos, list_limit, opened, part_limit, parts, movis, Supported}
use Rattle.avi_model.proofs.Fit.{FitsBy}
use Rattle.avi_model.proofs.Laid.{IsLaid, ListsStay}
use Rattle.avi_model.proofs.LaidForms.{new_begins, new_forms_end, new_forms_long, new_forms_read, new_movis}
use Rattle.avi_model.proofs.Lists.{all_both}
use Rattle.avi_model.proofs.OldIndex.{new_based, new_rows_sound}
use Rattle.avi_model.proofs.Read.{avi_again}
use Rattle.avi_model.proofs.Supports.{new_entries_sound, new_few_indexes, new_indexes_apart, new_places_sound, new_streams_sound}

pub laid_supported : (o : List ℕ) (bytes : IsBytes o) (s : Supported o) (f : ℕ → ℕ) (Free : ℕ → Type 0) (after : Avi) (facts : IsLaid o f Free after) → ListsStay o after → FitsBy after f o (spell_avi after) → Supported (spell_avi after)
laid_supported o bytes s f Free after facts lists fit =
    let r = avi_again after facts.readable in
    record {
      is_avi = new_begins o bytes s f Free after facts;
      forms_end = new_forms_end o bytes s f Free after facts;
      forms_long = new_forms_long o bytes s f Free after facts;
      forms_read = new_forms_read o bytes s f Free after facts;
      lists_end = subst (λ (x : Avi). AllByRecursion ListEnds (opened x)) (sym r) (all_both ListEnds (hdrls after) (strls after ++ infos after) lists.hdrls_end (all_both ListEnds (strls after) (infos after) lists.strls_end lists.infos_end));
      few_parts = subst (λ (x : Avi). parts x ≤ part_limit) (sym r) fit.few_parts;
      lists_small = subst (λ (x : Avi). AllByRecursion (λ (y : Stood). length y.chunk.body ≤ list_limit) (infos x)) (sym r) fit.lists_short;
      some_hdrl = omega (arith, s.some_hdrl, ap (λ (x : Avi). length (hdrls x)) r, lists.hdrls_stay);
      some_movi = omega (arith, s.some_movi, ap (λ (x : Avi). length (movis x)) r, new_movis o bytes s f Free after facts);
      streams_sound = new_streams_sound o bytes s f Free after facts fit;
      places_sound = new_places_sound o bytes s f Free after facts fit;
      few_indexes = new_few_indexes o bytes s f Free after facts fit;
      indexes_apart = new_indexes_apart o bytes s f Free after facts fit;
      entries_sound = new_entries_sound o bytes s f Free after facts fit;
      based = new_based o bytes s f Free after facts fit;
      rows_sound = new_rows_sound o bytes s f Free after facts fit;
    }
