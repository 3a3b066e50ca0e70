-- The code of a linked program was decoded from bytes of its class files.
use Rattle.std.proofs.Common.{◌≡◌, ◌∙◌, ap, refl, ℕ, ◌+◌, Bool, true, false, List, [], ◌∷◌, ◌++◌, map, take, slice_get, Option, Some, None, Result, Ok, Err}
use Rattle.std.specs.Prelude.{option_and_then, if◌then◌else◌}
use Rattle.std.specs.List.{AllByRecursion}
use Rattle.jvm_base.specs.declared.code_item.CodeItem.{CodeItem}
use Rattle.jvm_base.specs.declared.pool.PoolItem.{PoolItem}
use Rattle.jvm_base.proofs.Options.{then_some}
use Rattle.class_format.specs.Flags.{is_native}
use Rattle.class_format.specs.Meaning.{IsClass, IsMethod, HasCode, Spelled, AreBytes, contents_of, holds_code, plain_method}
use Rattle.class_format.specs.Spelling.{Member}
use Rattle.class_format.specs.declared.class.ClassFile.{ClassFile}
use Rattle.class_format.specs.declared.class.MethodItem.{MethodItem}
use Rattle.class_names.specs.Classes.{code_of as code_in, ok_of}
use Rattle.code_table.specs.Decoded.{decoded}
use Rattle.code_table.specs.declared.code.Code.{Code}
use Rattle.code_table.specs.declared.error.CodeErr.{CodeErr}
use Rattle.code_table.proofs.Acceptance.{is_code}
use Rattle.program_image.specs.Handlers.{body_code}
use Rattle.program_image.specs.declared.info.Body.{Body}
use Rattle.program_image.specs.declared.info.Body.TheVariants as body
use Rattle.program_image.specs.declared.info.MethodInfo.{MethodInfo}
use Rattle.link_image.specs.Methods.{natives_before, natives, class_methods, method_info, method_infos, body_of}
use Rattle.link_image.proofs.ListLaws.{all_map_from, all_numbered, all_at}
use Rattle.typed_code.specs.Framing.{WasDecoded}

-- the code has bytes, if there is some
abbrev HasBytes : Option CodeItem → Type 0
HasBytes None = Unit {0}
HasBytes (Some c) = AreBytes c.code

-- so has that of each method
abbrev pub HasByteCode : ClassFile → Type 0
HasByteCode f = AllByRecursion (λ m. HasBytes m.code) f.methods

has_bytes : (pool : List PoolItem) (flags : ℕ) (o : Option CodeItem) (contents : List (List ℕ)) → HasCode pool flags o contents → HasBytes o
has_bytes pool flags None contents h = tt
has_bytes pool flags (Some c) contents h = h.3.code.bytes

spelled_bytes : (pool : List PoolItem) (earlier : List MethodItem) (sources : List Member) (xs : List MethodItem) → Spelled (IsMethod pool) earlier sources xs → AllByRecursion (λ m. HasBytes m.code) xs
spelled_bytes pool earlier [] [] h = tt
spelled_bytes pool earlier [] (x ∷ xs) h = absurd h
spelled_bytes pool earlier (a ∷ sources) [] h = absurd h
spelled_bytes pool earlier (a ∷ sources) (x ∷ xs) h = (has_bytes pool a.flags x.code (contents_of (holds_code pool) a.attributes) h.0.code, spelled_bytes pool (earlier ++ x ∷ []) sources xs h.1)

-- of each class file
pub byte_code : (f : ClassFile) → IsClass f → HasByteCode f
byte_code f h = spelled_bytes f.pool [] (map (plain_method f.pool) f.methods) f.methods h.methods

-- a method's code was decoded
abbrev IsRead : MethodInfo → Type 0
IsRead i = (c : Code) → i.body ≡ body.Code c → WasDecoded c

code_read : (pool : List PoolItem) (o : Option CodeItem) → HasBytes o → (c : Code) → option_and_then (λ k. ok_of (decoded k pool)) o ≡ Some c → WasDecoded c
code_read pool None h c e = absurd cc
code_read pool (Some k) h c e = by_result (decoded k pool) refl e
  where
    by_result : (r : Result Code CodeErr) → decoded k pool ≡ r → ok_of r ≡ Some c → WasDecoded c
    by_result (Err x) q g = absurd cc
    by_result (Ok d) q g =
        let s : d ≡ c = cc in
        record { item = k; pool = pool; bytes = h; is_code = is_code k pool c (q ∙ ap (λ (x : Code). Ok x) s) }

body_read : (f : ClassFile) (k : ℕ) (m : MethodItem) → HasBytes m.code → (c : Code) → body_of k m (code_in f.pool m) ≡ body.Code c → WasDecoded c
body_read f k m h c e = by_code (code_in f.pool m) refl e
  where
    bare : (b : Bool) → (if b then body.Intrinsic k else body.Abstract) ≡ body.Code c → ⊥
    bare true h = cc
    bare false h = cc

    by_code : (o : Option Code) → code_in f.pool m ≡ o → body_of k m o ≡ body.Code c → WasDecoded c
    by_code None q g = absurd (bare (is_native m.flags) g)
    by_code (Some d) q g = let s : d ≡ c = cc in code_read f.pool m.code h c (q ∙ ap (λ (x : Code). Some x) s)

methods_read : (all : List ClassFile) → AllByRecursion HasByteCode all → AllByRecursion IsRead (method_infos all)
unfolding method_infos
methods_read all bytes =
    all_numbered IsRead (λ c f. class_methods (natives_before all c) c f) 0 all (λ c f e.
    all_map_from IsRead (λ i m. method_info f (0 + c) (natives_before all (0 + c) + natives (take i f.methods)) m) 0 f.methods (λ i m q.
    let here : HasByteCode f = all_at HasByteCode all c f bytes e in
    λ d h. body_read f (natives_before all (0 + c) + natives (take (0 + i) f.methods)) m (all_at (λ m. HasBytes m.code) f.methods i m here q) d h))

-- the code of a method of these classes was decoded
pub was_read : (all : List ClassFile) → AllByRecursion HasByteCode all → (m : ℕ) (c : Code) → option_and_then (λ i. body_code i.body) (slice_get (method_infos all) m) ≡ Some c → WasDecoded c
was_read all bytes m c e =
    let (i, q, b) = then_some (λ (i : MethodInfo). body_code i.body) (slice_get (method_infos all) m) c e in
    all_at IsRead (method_infos all) m i (methods_read all bytes) q c (by_body i.body b)
  where
    by_body : (b : Body) → body_code b ≡ Some c → b ≡ body.Code c
    by_body (body.Code d) h = let s : d ≡ c = cc in ap body.Code s
    by_body (body.Intrinsic k) h = absurd cc
    by_body body.Abstract h = absurd cc
