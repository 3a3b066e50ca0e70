use Rattle.std.proofs.Common.{◌≡◌, ℕ, ◌<◌, ◌+◌, ◌++◌, List, [], ◌∷◌, drop, map, length, slice_index_or, ap, ◌∙◌, append_assoc, add-one, drop-cons}
use Rattle.boot_table.specs.Files.{file_of}
use Rattle.boot_table.specs.Seen.{seen_exception}
use Rattle.boot_table.proofs.build.add_exceptions.Goals as goal

-- one more item of what is left is done
one_more : {A B F : Type 0} (g : A → B) (f : B → F) (whole done new : List F) (one : F) (xs : List A) (i : ℕ) (d : A) → i < length xs → new ≡ done ++ one ∷ [] → one ≡ f (g (slice_index_or xs i d)) → whole ≡ done ++ map f (map g (drop i xs)) → whole ≡ new ++ map f (map g (drop (i + 1) xs))
one_more g f whole done new one xs i d lt n o w =
    let front : drop i xs ≡ slice_index_or xs i d ∷ drop (i + 1) xs = rw (add-one, drop-cons xs i d) in
    rw (n, o, append_assoc) (w ∙ ap (λ z. done ++ map f (map g z)) front)

pub loop-exception-preserved : goal.loop-exception-preserved
loop-exception-preserved c =
    one_more seen_exception file_of _ _ _ _ c.args.exceptions.now c.loop-exception.exception-index _ c.loop-exception-test.true c.in_ok-push.ensures.ok c.in_ok-exception_file.ensures c.loop-exception.invariant
