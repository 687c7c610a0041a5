-- What an edit of the names of streams makes of `hdrl`, as the model of AVI files has it (AVI RIFF File Reference, strn).
use Rattle.std.specs.Prelude.{◌≡◌, ◌≤◌, ◌<◌, ◌⊎◌, ℕ, ◌+◌, ◌==◌, List, [], ◌∷◌, ◌++◌, length, map, true, if◌then◌else◌}
use Rattle.std.specs.List.{flat_map, AllByRecursion}
use Rattle.container_model.specs.Chunk.{Chunk, spell}
use Rattle.container_model.specs.Splice.{Cut}
use Rattle.container_model.specs.Units.{cuts, lacks_pad}
use Rattle.unit_plan.specs.Cuts.{FitsIn, IsExact, SpansAscend, cut_in, patch_of}
use Rattle.unit_plan.specs.Sized.{gained, lost}
use Rattle.avi_model.specs.Avi.{Avi, avi_of, strls}
use Rattle.avi_model.specs.Named.{Names, Site, hdrl_named, hdrl_site, list_pad, list_size, new_names, sites_in, strl_fill, strl_named, strl_pieces}
use Rattle.avi_model.specs.RoomAfter.{hdrl_patches, names_fit}
use Rattle.avi_model.specs.Streams.{stream_parts}
use Rattle.avi_model.specs.Support.{count_kids}
use Rattle.avi_plan.specs.declared.names.NamesAt.{NamesAt}

-- ---- the model's spans, of which a list's size is one only where it changes

abbrev pub size_needed : Site → Chunk → List Cut
size_needed s new = if length s.chunk.body == length new.body then [] else list_size s new ∷ []

abbrev pub strl_needed : Names → Site → List Cut
strl_needed e s =
    let new = strl_named s.ends (new_names e s.stream) s.chunk in
    size_needed s new ++ (cuts (strl_fill s.ends s.chunk) (s.at + 12) (strl_pieces (new_names e s.stream) s.chunk) ++ list_pad s new)

abbrev pub hdrl_needed : Names → Site → List Cut
hdrl_needed e s =
    let new = hdrl_named e s.ends s.chunk in
    size_needed s new ++ (flat_map (strl_needed e) (sites_in e s) ++ list_pad s new)

abbrev pub name_needed : Avi → Names → List Cut
name_needed a e = flat_map (hdrl_needed e) (hdrl_site a)

-- ---- what is told of it

pub record AreNames (b : List ℕ) (e : Names) (n : NamesAt) : Type 0 where
  pub at : map (λ (s : Site). s.at) (hdrl_site (avi_of b)) ≡ n.at ∷ []
  pub next : map (λ (s : Site). s.at + length (spell s.chunk)) (hdrl_site (avi_of b)) ≡ n.next ∷ []
  pub cuts_are : map (cut_in b) n.cuts.items ≡ name_needed (avi_of b) e
  pub patches : n.fits ≡ true → flat_map patch_of n.cuts.items ≡ flat_map (hdrl_patches e) (hdrl_site (avi_of b))
  pub fits : n.fits ≡ names_fit (avi_of b) e
  pub lacks : map (λ (s : Site). lacks_pad (hdrl_named e s.ends s.chunk)) (hdrl_site (avi_of b)) ≡ n.lacks_pad ∷ []
  pub len : map (λ (s : Site). length (spell (hdrl_named e s.ends s.chunk))) (hdrl_site (avi_of b)) ≡ n.len ∷ []
  pub parts : stream_parts (avi_of b) e + n.was ≡ count_kids (strls (avi_of b)) + n.now

-- ---- by numbers alone, whatever the file

pub record StandNames (len : ℕ) (n : NamesAt) : Type 0 where
  pub low : 12 ≤ n.at
  pub order : n.at < n.next
  pub ascend : SpansAscend (n.at + 1) n.cuts.items n.next
  pub sum : n.len + lost n.cuts.items + n.at ≡ n.next + gained n.cuts.items
  pub fits : n.fits ≡ true → AllByRecursion IsExact n.cuts.items ⊎ ((n.next ≡ len) × FitsIn len n.cuts.items)
