-- Calls that add to `Work`, one after the other.
use Rattle.std.proofs.Common.{◌≡◌, ℕ, ◌+◌, ◌≤◌, ◌<◌, ◌^◌, List, [], ◌++◌, length, sym, ap, ◌∙◌, arith, append_assoc, append-nil, length-append, subst, Option, Some, None}
use Rattle.std.specs.Prelude.{IsSome, IsTrue, Result, Ok, Err, is_some}
use Rattle.me_disk.specs.Calls.Call.{AppendWork, BeginWork}
use Rattle.me_disk.specs.Causes.{Rose}
use Rattle.me_disk.specs.Disk.{Disk, Leaves, Only, bytes_of, plain}
use Rattle.me_disk.specs.Steps.{Does, OnlyWork}
use Rattle.me_disk.specs.declared.depot.DepotFault.{DepotFault}
use Rattle.me_disk.specs.declared.depot.WorkState.TheVariants.{Open}
use Rattle.me_disk.proofs.Runs.{Leaves-quiet, Leaves-trans, Only-keeps, OnlyWork-refl, OnlyWork-trans, rose_sooner}
use Rattle.me_generate.specs.Makes.{Adds, Grows, Halts, Installs, IsNoneOr, Makes, Rests, Stands}
use Rattle.me_generate.specs.declared.making.MakeFault.{MakeFault}
use Rattle.me_generate.specs.declared.making.MakeFault.TheVariants as fault

is_there : (o : Option (List ℕ)) (bytes : List ℕ) → o ≡ Some bytes → IsSome o
is_there o bytes is = ap is_some is

-- ---- one call

pub appended : (bytes : List ℕ) (a b : Disk) → a.work_state ≡ Open → Does (AppendWork bytes) a b (Ok (tt {0})) → Grows bytes a b
appended bytes a b is_open did = record {
  only = record { faults = did.cause.later; tells = did.tells; main = did.main_stays; journal = did.journal_stays; crash = did.quiet };
  open_still = did.state;
  there = λ tells there. is_there b.slots.work _ (did.work tells);
  work = λ tells. ap bytes_of (did.work tells);
  written = did.written.exact;
}

pub not_appended : (bytes : List ℕ) (a b : Disk) (e : DepotFault) → Does (AppendWork bytes) a b (Err e) → Halts (length bytes) a b
not_appended bytes a b e did = record {
  only = record { faults = did.cause.later; tells = did.tells; main = did.main_stays; journal = did.journal_stays; crash = did.quiet };
  least = did.written.least;
  most = did.written.most;
}

-- ---- one after the other

pub grows_none : (a : Disk) → a.work_state ≡ Open → Grows [] a a
grows_none a is_open = record { only = OnlyWork-refl a; open_still = is_open; there = λ tells there. there; work = λ tells. sym (append-nil (bytes_of a.slots.work)); written = omega arith }

pub grows_then : (x y : List ℕ) (a b c : Disk) → Grows x a b → Grows y b c → Grows (x ++ y) a c
grows_then x y a b c p q = record {
  only = OnlyWork-trans a b c p.only q.only;
  open_still = q.open_still;
  there = λ tells there. q.there (subst IsTrue (sym p.only.tells) tells) (p.there tells there);
  work = λ tells. q.work (subst IsTrue (sym p.only.tells) tells) ∙ ap (λ (w : List ℕ). w ++ y) (p.work tells) ∙ append_assoc (bytes_of a.slots.work) x y;
  written = omega (arith, p.written, q.written, length-append x y);
}

pub grows_as : (x y : List ℕ) (a b : Disk) → x ≡ y → Grows x a b → Grows y a b
grows_as x y a b same p = subst (λ (w : List ℕ). Grows w a b) same p

pub halts_after : (x : List ℕ) (m n : ℕ) (a b c : Disk) → Grows x a b → Halts m b c → length x + m ≤ n → Halts n a c
halts_after x m n a b c p q le = record {
  only = OnlyWork-trans a b c p.only q.only;
  least = omega (arith, p.written, q.least);
  most = omega (arith, p.written, q.most, le);
}

pub halts_here : (x : List ℕ) (n : ℕ) (a b : Disk) → Grows x a b → length x ≤ n → Halts n a b
halts_here x n a b p le = record { only = p.only; least = omega (arith, p.written); most = omega (arith, p.written, le) }

pub halts_wider : (m n : ℕ) (a b : Disk) → Halts m a b → m ≤ n → Halts n a b
halts_wider m n a b p le = record { only = p.only; least = p.least; most = omega (arith, p.most, le) }

pub rose_then : (x : List ℕ) (a b c : Disk) → Grows x a b → Rose b.faults c.faults → Rose a.faults c.faults
rose_then x a b c p rose = rose_sooner a.faults b.faults c.faults p.only.faults rose

-- ---- results

pub adds_memory : (x y : List ℕ) (a b : Disk) (r : Result Unit MakeFault) → r ≡ Err fault.Memory → Grows x a b → length x ≤ length y → Adds y a b r
adds_memory x y a b r is p le = subst (Adds y a b) (sym is) (record { ok = tt; err = halts_here x (length y) a b p le; cause = λ h. absurd cc })

pub adds_stopped : (x z y : List ℕ) (a b c : Disk) (r s : Result Unit MakeFault) (e : MakeFault) → r ≡ Err e → s ≡ Err e → Grows x a b → Adds z b c r → length x + length z ≤ length y → Adds y a c s
adds_stopped x z y a b c r s e is same p adds le =
    let at_err : Adds z b c (Err e) = subst (Adds z b c) is adds in
    subst (Adds y a c) (sym same) (record { ok = tt; err = halts_after x (length z) (length y) a b c p at_err.err le; cause = λ h. rose_then x a b c p (at_err.cause h) })

pub adds_then : (x z y : List ℕ) (a b c : Disk) (r : Result Unit MakeFault) → Grows x a b → Adds z b c r → x ++ z ≡ y → Adds y a c r
adds_then x z y a b c (Ok tt) p adds same = record { ok = grows_as (x ++ z) y a c same (grows_then x z a b c p adds.ok); err = tt; cause = λ h. absurd cc }
adds_then x z y a b c (Err e) p adds same = record {
  ok = tt;
  err = halts_after x (length z) (length y) a b c p adds.err (omega (arith, ap length same, length-append x z));
  cause = λ h. rose_then x a b c p (adds.cause h);
}

-- there is room for more
pub fits_more : (x z y : List ℕ) (a b : Disk) → Grows x a b → length x + length z ≤ length y → (IsTrue a.tells → length (bytes_of a.slots.work) + length y < 2 ^ 63)
    → IsTrue b.tells → length (bytes_of b.slots.work) + length z < 2 ^ 63
fits_more x z y a b p le room tells =
    let told : IsTrue a.tells = subst IsTrue p.only.tells tells in
    omega (arith, room told, ap length (p.work told), length-append (bytes_of a.slots.work) x, le)

-- ---- a file

begun : (a b : Disk) → Does BeginWork a b (Ok (tt {0})) → OnlyWork a b
begun a b did = record { faults = did.cause.later; tells = did.tells; main = did.main_stays; journal = did.journal_stays; crash = did.quiet }

pub begun_fits : (file : List ℕ) (a b : Disk) → Does BeginWork a b (Ok (tt {0})) → length file < 2 ^ 63 → IsTrue b.tells → length (bytes_of b.slots.work) + length file < 2 ^ 63
begun_fits file a b did few tells =
    let told : IsTrue a.tells = subst IsTrue did.tells tells in
    omega (arith, few, ap (λ (w : Option (List ℕ)). length (bytes_of w)) (did.work told))

some_is : (o : Option (List ℕ)) (file : List ℕ) → IsSome o → bytes_of o ≡ file → o ≡ Some file
some_is None file there is = absurd cc
some_is (Some w) file there is = ap Some is

rests : (file : List ℕ) (a b c : Disk) → Does BeginWork a b (Ok (tt {0})) → Grows file b c → Rests file c
rests file a b c did p tells =
    let told_b : IsTrue b.tells = subst IsTrue p.only.tells tells in
    let told_a : IsTrue a.tells = subst IsTrue did.tells told_b in
    some_is c.slots.work file (p.there told_b (is_there b.slots.work [] (did.work told_a))) (p.work told_b ∙ ap (λ (w : Option (List ℕ)). bytes_of w ++ file) (did.work told_a))

-- a call failed, or memory was refused, while the file was written
pub make_stopped : (file : List ℕ) (a b c : Disk) (r : Result Unit MakeFault) (s : Result ℕ MakeFault) (e : MakeFault) → r ≡ Err e → s ≡ Err e → Does BeginWork a b (Ok (tt {0})) → Adds file b c r → Makes file a c s
make_stopped file a b c r s e is same did adds =
    let at_err : Adds file b c (Err e) = subst (Adds file b c) is adds in
    let only : OnlyWork a c = OnlyWork-trans a b c (begun a b did) at_err.err.only in
    subst (Makes file a c) (sym same) (record {
      faults = only.faults;
      tells = only.tells;
      len = tt;
      stands = tt;
      leaves = λ tells start. Leaves-quiet (IsNoneOr file) a c only;
      memory = λ h. only;
      least = omega (arith, did.written.exact, at_err.err.least);
      most = omega (arith, did.written.exact, at_err.err.most);
      exact = tt;
      cause = λ h. rose_sooner a.faults b.faults c.faults (begun a b did).faults (at_err.cause (fault_same e h));
    })
  where
    fault_same : (x : MakeFault) → ◌≡◌ {A = Result ℕ MakeFault} (Err x) (Err fault.Depot) → ◌≡◌ {A = Result Unit MakeFault} (Err x) (Err fault.Depot)
    fault_same x h = cc

install_leaves : (file : List ℕ) (a b c d : Disk) (r : Result Unit MakeFault) → Does BeginWork a b (Ok (tt {0})) → Grows file b c → Installs c d r → Only (plain None) a → Leaves (IsNoneOr file) a d
install_leaves file a b c d r did p installs start =
    let only : OnlyWork a c = OnlyWork-trans a b c (begun a b did) p.only in
    Leaves-trans (IsNoneOr file) a c d (Leaves-quiet (IsNoneOr file) a c only) (installs.leaves file (rests file a b c did p) (Only-keeps (plain None) a c start only.crash))

-- a call failed while it got its name
pub make_failed : (file : List ℕ) (a b c d : Disk) (r : Result Unit MakeFault) (s : Result ℕ MakeFault) (e : MakeFault) → r ≡ Err e → s ≡ Err e → Does BeginWork a b (Ok (tt {0})) → Grows file b c → Installs c d r → Makes file a d s
make_failed file a b c d r s e is same did p installs =
    let at_err : Installs c d (Err e) = subst (Installs c d) is installs in
    let only : OnlyWork a c = OnlyWork-trans a b c (begun a b did) p.only in
    subst (Makes file a d) (sym same) (record {
      faults = omega (arith, only.faults, at_err.faults);
      tells = at_err.tells ∙ only.tells;
      len = tt;
      stands = tt;
      leaves = λ tells start. install_leaves file a b c d (Err e) did p at_err start;
      memory = λ h. absurd (not_both e at_err.cause.0 h);
      least = omega (arith, did.written.exact, p.written, at_err.written);
      most = omega (arith, did.written.exact, p.written, at_err.written);
      exact = tt;
      cause = λ h. rose_sooner a.faults c.faults d.faults only.faults at_err.cause.1;
    })
  where
    not_both : (x : MakeFault) → ◌≡◌ {A = Result Unit MakeFault} (Err x) (Err fault.Depot) → ◌≡◌ {A = Result ℕ MakeFault} (Err x) (Err fault.Memory) → ⊥
    not_both x h k = cc

stands_from : (file : List ℕ) (a c d : Disk) → OnlyWork a c → Stands file c d → Stands file a d
stands_from file a c d only stands = record {
  main = λ tells. stands.main (subst IsTrue (sym only.tells) tells);
  journal = stands.journal ∙ only.journal;
  work = λ tells. stands.work (subst IsTrue (sym only.tells) tells);
  state = stands.state;
  sure = λ tells start. stands.sure (subst IsTrue (sym only.tells) tells) (Only-keeps (plain None) a c start only.crash);
}

-- the file is made
pub made : (file : List ℕ) (a b c d : Disk) (r : Result Unit MakeFault) (x : Unit {0}) (len : ℕ) → r ≡ Ok x → len ≡ length file → Does BeginWork a b (Ok (tt {0})) → Grows file b c → Installs c d r → Makes file a d (Ok len)
made file a b c d r x len is same did p installs =
    let at_ok : Installs c d (Ok x) = subst (Installs c d) is installs in
    let only : OnlyWork a c = OnlyWork-trans a b c (begun a b did) p.only in
    record {
      faults = omega (arith, only.faults, at_ok.faults);
      tells = at_ok.tells ∙ only.tells;
      len = same;
      stands = stands_from file a c d only (at_ok.ok file (rests file a b c did p));
      leaves = λ tells start. install_leaves file a b c d (Ok x) did p at_ok start;
      memory = λ h. absurd cc;
      least = omega (arith, did.written.exact, p.written, at_ok.written);
      most = omega (arith, did.written.exact, p.written, at_ok.written);
      exact = omega (arith, did.written.exact, p.written, at_ok.written);
      cause = λ h. absurd cc;
    }
