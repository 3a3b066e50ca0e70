-- Operands by their depth, and the values of a call.
use Rattle.std.proofs.Common.{◌≡◌, ℕ, ◌-◌, ◌<◌, ◌≤◌, List, length, take, get_or, Some, None, sym, ap, ◌∙◌, arith}
use Rattle.std.specs.Prelude.{slice_get}
use Rattle.std.proofs.lemmas.List.{get_or-reverse, get_or-take, length-reverse, length-take}
use Rattle.std.proofs.lemmas.Option.{slice_get-get_or, slice_get_past}
use Rattle.jvm_base.specs.declared.value.Value.{Value}
use Rattle.jvm_base.specs.declared.value.Value.TheVariants.{Null}
use Rattle.frame_ops.specs.Stepping.{call_values}

-- as many values as a call has
pub call_count_is : (vs : List Value) (n : ℕ) → n ≤ length vs → length (call_values n vs) ≡ n
call_count_is vs n h = simp (length-reverse, length-take) (omega arith)

-- a value of a call lies below the later ones
pub call_value : (vs : List Value) (n i : ℕ) → n ≤ length vs → i < n → slice_get (call_values n vs) i ≡ slice_get vs (n - 1 - i)
call_value vs n i h l =
    let d : Value = Null in
    let t : length (take n vs) ≡ n = simp length-take (omega arith) in
    let a : i < length (call_values n vs) = rw (call_count_is vs n h) l in
    slice_get-get_or (call_values n vs) i d a
    ∙ ap Some (get_or-reverse (take n vs) i d (rw t l) ∙ ap (λ k. get_or (take n vs) (k - 1 - i) d) t ∙ get_or-take n vs (n - 1 - i) d (omega arith))
    ∙ sym (slice_get-get_or vs (n - 1 - i) d (omega arith))

-- past them there is none
pub no_call_value : (vs : List Value) (n i : ℕ) → n ≤ length vs → n ≤ i → slice_get (call_values n vs) i ≡ None
no_call_value vs n i h l = slice_get_past (call_values n vs) i (rw (call_count_is vs n h) l)
