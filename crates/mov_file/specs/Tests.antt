-- The tests of an atom by what is kept of those before it.
use Rattle.std.specs.Prelude.{◌-◌, ◌^◌, List, [], ◌∷◌, Bool, ◌&&◌, not, nat_lt, codes}
use Rattle.std.specs.Str.{bytes_eq}
use Rattle.part_tree.specs.declared.why.Why.TheVariants.{CarrierBig, Compressed, Fragments, MoovBig, Reference, TwoMoov}
use Rattle.mov_model.specs.Why.{Test}
use Rattle.qt_atoms.specs.declared.walker.AtomAt.{AtomAt}

-- of an atom of the file
abbrev pub file_by : Bool → AtomAt → List Test
file_by seen k =
    (bytes_eq k.kind.0 (codes "moof"), Fragments k.at)
    ∷ ((bytes_eq k.kind.0 (codes "moov") && seen, TwoMoov)
    ∷ ((bytes_eq k.kind.0 (codes "moov") && nat_lt (2 ^ 26) (k.next - k.at), MoovBig (k.next - k.at)) ∷ []))

-- of an atom directly in moov
abbrev pub moov_by : Bool → AtomAt → List Test
moov_by seen k =
    (bytes_eq k.kind.0 (codes "cmov"), Compressed)
    ∷ ((bytes_eq k.kind.0 (codes "rmra"), Reference)
    ∷ ((bytes_eq k.kind.0 (codes "mvex"), Fragments k.at)
    ∷ ((bytes_eq k.kind.0 (codes "udta") && (not seen && nat_lt (2 ^ 24) k.body.len), CarrierBig k.kind k.body.len) ∷ [])))
