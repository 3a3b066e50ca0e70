-- The rules on a small program. A Java machine gave the answers on selection across packages, some on
-- arrays and one on a handler; the others follow from the rules.
use Rattle.std.proofs.Common.{◌≡◌, ℕ, Bool, true, false, List, [], ◌∷◌, ◌++◌, map, Option, Some, None, refl}
use Rattle.std.specs.Prelude.{codes}
use Rattle.jvm_base.specs.declared.desc.Elem.{Elem}
use Rattle.jvm_base.specs.declared.desc.Elem.TheVariants.{Int, Object}
use Rattle.jvm_base.specs.declared.code_item.TableItem.{TableItem}
use Rattle.hierarchy.specs.Walks.{all_from, walk}
use Rattle.program_image.specs.declared.info.ClassInfo.{ClassInfo}
use Rattle.program_image.specs.declared.info.ArrayInfo.{ArrayInfo}
use Rattle.program_image.specs.declared.info.MethodInfo.{MethodInfo}
use Rattle.program_image.specs.declared.info.Body.{Body}
use Rattle.program_image.specs.declared.info.Body.TheVariants.{Code, Intrinsic, Abstract}
use Rattle.program_image.specs.declared.info.Target.TheVariants.{Class}
use Rattle.program_image.specs.declared.select.Selected.{Selected}
use Rattle.program_image.specs.declared.select.Selected.TheVariants.{Found, NoBody, NoInterface, NotPublic}
use Rattle.program_image.specs.Places.{placed}
use Rattle.program_image.specs.Program.{Program, program, target_of}
use Rattle.program_image.specs.Subclass.{is_sub_of, sub_by}
use Rattle.program_image.specs.Selection.{select_of}
use Rattle.program_image.specs.Handlers.{handler_of}

-- ---- the program

-- a class with a superclass, interfaces and methods
plain : List ℕ → Option ℕ → List ℕ → List ℕ → ClassInfo
plain name over interfaces methods = record { name = name; flags = 1; super_class = over; interfaces = interfaces; fields = []; methods = methods; clinit = None; array = None }

-- an array class
array : List ℕ → ArrayInfo → ClassInfo
array name info = record { name = name; flags = 1041; super_class = Some 0; interfaces = []; fields = []; methods = []; clinit = None; array = Some info }

of : ℕ → Elem → Option ℕ → ArrayInfo
of dims elem part = record { dims = dims; elem = elem; part = part }

-- classes A of package p, B below it of package q, and C of package p below that; an interface I, J
-- and K under it, and D of both; E that lacks I's method, and F that has it in its package alone;
-- arrays of A, of Object and of int
classes : List ClassInfo
classes =
    plain (codes "java/lang/Object") None [] []
    ∷ plain (codes "p/A") (Some 0) [] (0 ∷ 1 ∷ 2 ∷ [])
    ∷ plain (codes "q/B") (Some 1) [] (3 ∷ 4 ∷ 5 ∷ [])
    ∷ plain (codes "p/C") (Some 2) [] (6 ∷ [])
    ∷ plain (codes "I") (Some 0) [] (7 ∷ [])
    ∷ plain (codes "J") (Some 0) (4 ∷ []) []
    ∷ plain (codes "K") (Some 0) (4 ∷ []) []
    ∷ plain (codes "D") (Some 0) (5 ∷ 6 ∷ []) (8 ∷ [])
    ∷ plain (codes "E") (Some 0) (4 ∷ []) []
    ∷ plain (codes "F") (Some 0) (4 ∷ []) (9 ∷ [])
    ∷ array (codes "[Lp/A;") (of 1 (Object (codes "p/A")) (Some 1))
    ∷ array (codes "[[Lp/A;") (of 2 (Object (codes "p/A")) (Some 10))
    ∷ array (codes "[Ljava/lang/Object;") (of 1 (Object (codes "java/lang/Object")) (Some 0))
    ∷ array (codes "[[Ljava/lang/Object;") (of 2 (Object (codes "java/lang/Object")) (Some 12))
    ∷ array (codes "[I") (of 1 Int None)
    ∷ array (codes "[[I") (of 2 Int (Some 14))
    ∷ []

-- a method without arguments and result
method : ℕ → List ℕ → ℕ → Body → MethodInfo
method owner name flags body = record { owner = owner; name = name; desc = record { args = []; ret = None }; flags = flags; body = body }

-- A's and B's m (of the package), k (protected) and x (private in A), C's m, the interface's method
-- and those of D and F
methods : List MethodInfo
methods =
    method 1 (codes "m") 0 guarded
    ∷ method 1 (codes "k") 4 (Intrinsic 0)
    ∷ method 1 (codes "x") 2 (Intrinsic 0)
    ∷ method 2 (codes "m") 0 (Intrinsic 0)
    ∷ method 2 (codes "k") 4 (Intrinsic 0)
    ∷ method 2 (codes "x") 0 (Intrinsic 0)
    ∷ method 3 (codes "m") 0 (Intrinsic 0)
    ∷ method 4 (codes "run") 1025 Abstract
    ∷ method 7 (codes "run") 1 (Intrinsic 0)
    ∷ method 9 (codes "run") 0 (Intrinsic 0)
    ∷ []
  where
    entry : ℕ → ℕ → ℕ → ℕ → TableItem
    entry start end handler class = record { start = start; end = end; handler = handler; class = class }

    guarded : Body
    guarded = Code (record { max_stack = 0; max_locals = 0; ops = []; table = entry 0 4 10 7 ∷ entry 0 8 20 8 ∷ entry 0 8 30 9 ∷ entry 4 9 40 0 ∷ [] })

-- the first entry takes C, the second B, and the third what has no target
example : Program
example = program classes methods ((0, 65537, Class 2) ∷ (0, 65536, Class 3) ∷ []) [] 0

-- ---- subclasses

-- D is a J, a K, an I and an Object, and none of the interfaces is a D
interfaces : map (λ (q : ℕ × ℕ). is_sub_of classes q.0 q.1) ((7, 5) ∷ (7, 6) ∷ (7, 4) ∷ (7, 0) ∷ (7, 7) ∷ (4, 7) ∷ (5, 6) ∷ (0, 7) ∷ []) ≡ true ∷ true ∷ true ∷ true ∷ true ∷ false ∷ false ∷ false ∷ []
unfolding plain array of classes is_sub_of sub_by
interfaces = refl

-- C[][] would be an A[][], an Object[] and an Object[][]; int[][] is an Object[], int[] is none
arrays : map (λ (q : ℕ × ℕ). is_sub_of classes q.0 q.1) ((11, 12) ∷ (11, 13) ∷ (10, 12) ∷ (10, 13) ∷ (15, 12) ∷ (14, 12) ∷ (15, 13) ∷ (14, 0) ∷ (12, 10) ∷ []) ≡ true ∷ true ∷ true ∷ false ∷ true ∷ false ∷ false ∷ true ∷ false ∷ []
unfolding plain array of classes is_sub_of sub_by
arrays = refl

-- ---- selection

-- called as A's methods on an A, a B and a C; B's m isn't A's, since it is of another package
upwards : map (λ (q : ℕ × ℕ). select_of classes methods q.0 q.1 false) ((1, 0) ∷ (2, 0) ∷ (3, 0) ∷ (1, 1) ∷ (2, 1) ∷ (3, 1) ∷ (2, 2) ∷ (3, 2) ∷ []) ≡ Found 0 ∷ Found 0 ∷ Found 6 ∷ Found 1 ∷ Found 4 ∷ Found 4 ∷ Found 2 ∷ Found 2 ∷ []
unfolding plain array of classes method methods is_sub_of sub_by all_from walk
upwards = refl

-- called as B's m on a C: C's isn't B's
apart : select_of classes methods 3 3 false ≡ Found 3
unfolding plain array of classes method methods is_sub_of sub_by all_from walk
apart = refl

-- called as the interface's on a D, an E, an F and an A
interface_calls : map (λ c. select_of classes methods c 7 true) (7 ∷ 8 ∷ 9 ∷ 1 ∷ []) ≡ Found 8 ∷ NoBody ∷ NotPublic ∷ NoInterface ∷ []
unfolding plain array of classes method methods is_sub_of sub_by all_from walk
interface_calls = refl

-- ---- handlers

-- a C, a B or an A that is thrown at an address
handlers : map (λ (q : ℕ × ℕ). handler_of example 0 q.0 q.1) ((0, 3) ∷ (4, 3) ∷ (0, 2) ∷ (0, 1) ∷ (4, 1) ∷ (8, 3) ∷ (9, 3) ∷ []) ≡ Some 10 ∷ Some 20 ∷ Some 20 ∷ None ∷ Some 40 ∷ Some 40 ∷ None ∷ []
unfolding plain array of classes method methods example is_sub_of sub_by
handlers = refl

-- a method without code has none
no_code : handler_of example 1 0 3 ≡ None
unfolding method methods example
no_code = refl

-- ---- targets

-- by their own method and address
targets : map (λ (q : ℕ × ℕ). target_of example q.0 q.1) ((0, 65536) ∷ (0, 65537) ∷ (0, 65538) ∷ (1, 65536) ∷ []) ≡ Some (Class 3) ∷ Some (Class 2) ∷ None ∷ None ∷ []
unfolding example
targets = refl
