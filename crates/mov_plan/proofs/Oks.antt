-- What holds of the plan that a result may hold.
use Rattle.std.specs.Prelude.{IfOk, Result}
use Rattle.std.specs.declared.result.Result.TheVariants.{Ok, Err}

pub ok_all : {T E : Type 0} (A B C D F Q : T → Type 0) (r : Result T E) → ((x : T) → A x → B x → C x → D x → F x → Q x) → IfOk r A → IfOk r B → IfOk r C → IfOk r D → IfOk r F → IfOk r Q
ok_all A B C D F Q (Ok x) h a b c d f = h x a b c d f
ok_all A B C D F Q (Err e) h a b c d f = tt

pub ok_four : {T E : Type 0} (A B C D Q : T → Type 0) (r : Result T E) → ((x : T) → A x → B x → C x → D x → Q x) → IfOk r A → IfOk r B → IfOk r C → IfOk r D → IfOk r Q
ok_four A B C D Q (Ok x) h a b c d = h x a b c d
ok_four A B C D Q (Err e) h a b c d = tt
