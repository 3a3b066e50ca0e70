-- The intrinsics by number: the methods of boot classes that have no code and that a machine does by
-- itself.
use Rattle.std.specs.Prelude.{ℕ, Bool, true, false, List, [], ◌∷◌, ◌++◌, map, codes}
use Rattle.boot_table.specs.Table.{object, thread, plain, takes_text}

-- a method of a class, by name and descriptor, static or not
pub record Intrinsic : Type 0 where
  pub class : List ℕ
  pub name : List ℕ
  pub desc : List ℕ
  pub is_static : Bool

-- one of an object
abbrev pub on : List ℕ → List ℕ → List ℕ → Intrinsic
on class name desc = record { class = class; name = name; desc = desc; is_static = false }

-- a static one
abbrev pub alone : List ℕ → List ℕ → List ℕ → Intrinsic
alone class name desc = record { class = class; name = name; desc = desc; is_static = true }

-- 0 to 2
abbrev pub of_object : List Intrinsic
of_object =
    on object (codes "wait") plain
    ∷ on object (codes "notify") plain
    ∷ on object (codes "notifyAll") plain
    ∷ []

-- 3 to 8
abbrev pub of_string : List Intrinsic
of_string =
    on (codes "java/lang/String") (codes "length") (codes "()I")
    ∷ on (codes "java/lang/String") (codes "charAt") (codes "(I)C")
    ∷ on (codes "java/lang/String") (codes "equals") (codes "(Ljava/lang/Object;)Z")
    ∷ on (codes "java/lang/String") (codes "concat") (codes "(Ljava/lang/String;)Ljava/lang/String;")
    ∷ alone (codes "java/lang/String") (codes "valueOf") (codes "(I)Ljava/lang/String;")
    ∷ alone (codes "java/lang/String") (codes "valueOf") (codes "(J)Ljava/lang/String;")
    ∷ []

-- 9 to 17
abbrev pub of_buffer : List Intrinsic
of_buffer =
    on (codes "java/lang/StringBuffer") (codes "<init>") plain
    ∷ on (codes "java/lang/StringBuffer") (codes "<init>") takes_text
    ∷ on (codes "java/lang/StringBuffer") (codes "append") (codes "(I)Ljava/lang/StringBuffer;")
    ∷ on (codes "java/lang/StringBuffer") (codes "append") (codes "(J)Ljava/lang/StringBuffer;")
    ∷ on (codes "java/lang/StringBuffer") (codes "append") (codes "(C)Ljava/lang/StringBuffer;")
    ∷ on (codes "java/lang/StringBuffer") (codes "append") (codes "(Z)Ljava/lang/StringBuffer;")
    ∷ on (codes "java/lang/StringBuffer") (codes "append") (codes "(Ljava/lang/String;)Ljava/lang/StringBuffer;")
    ∷ on (codes "java/lang/StringBuffer") (codes "toString") (codes "()Ljava/lang/String;")
    ∷ on (codes "java/lang/StringBuffer") (codes "length") (codes "()I")
    ∷ []

-- what is printed: an int, a long, a char, a boolean, a String
abbrev pub printed : List (List ℕ)
printed = codes "(I)V" ∷ codes "(J)V" ∷ codes "(C)V" ∷ codes "(Z)V" ∷ takes_text ∷ []

-- 18 to 28
abbrev pub of_stream : List Intrinsic
of_stream =
    map (on (codes "java/io/PrintStream") (codes "print")) printed
    ++ (map (on (codes "java/io/PrintStream") (codes "println")) printed
    ++ on (codes "java/io/PrintStream") (codes "println") plain ∷ [])

-- 29 to 33
abbrev pub of_thread : List Intrinsic
of_thread =
    on thread (codes "start") plain
    ∷ on thread (codes "join") plain
    ∷ alone thread (codes "currentThread") (codes "()Ljava/lang/Thread;")
    ∷ alone thread (codes "sleep") (codes "(J)V")
    ∷ alone thread (codes "yield") plain
    ∷ []

-- each at its number
unfoldable pub intrinsics : List Intrinsic
intrinsics = of_object ++ (of_string ++ (of_buffer ++ (of_stream ++ of_thread)))
