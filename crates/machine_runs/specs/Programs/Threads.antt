-- Threads and locks.
use Rattle.std.specs.Prelude.{pos, [], ◌∷◌, codes, None}
use Rattle.jvm_base.specs.declared.desc.Desc.{Desc}
use Rattle.code_table.specs.declared.op.Op.TheVariants as op
use Rattle.code_table.specs.declared.opcode.TheConstants as code
use Rattle.program_image.specs.Program.{Program}
use Rattle.machine_state.specs.BootClasses.{thread, thread_state}
use Rattle.machine_runs.specs.Assembly.{Line, int, boolean, object, does, arith, iconst, aload, astore, dup, goto, return, monitorenter, monitorexit, getfield, putfield, invoke, new, method, public, public_synchronized, class_under, field, strings, with_handlers, catches}
use Rattle.machine_runs.specs.Boot.{plain, any_object, runnable, init_calling}
use Rattle.machine_runs.specs.Linked.{linked, main_method, out, println_int, calls_init}

-- `start` of a Thread
abbrev pub start : Line
start = invoke code.INVOKEVIRTUAL [] None 34

-- `join` of a Thread
abbrev pub join : Line
join = invoke code.INVOKEVIRTUAL [] None 35

-- the type of Counters
abbrev pub counter : Desc
counter = object (codes "Counter")

-- the type of Flags
abbrev pub flag : Desc
flag = object (codes "Flag")

-- class Counter { int n; synchronized void add() { n = n + 1; } }
-- class Adder extends Thread { Counter c; public void run() { c.add(); c.add(); } }
-- class Synchronized {
--   public static void main(String[] args) throws Exception {
--     Counter c = new Counter();
--     Adder a = new Adder(); a.c = c; Adder b = new Adder(); b.c = c;
--     a.start(); b.start(); a.join(); b.join();
--     System.out.println(c.n);
--     try { a.start(); } catch (IllegalThreadStateException e) { System.out.println(1); }
--   }
-- }
abbrev pub synchronized : Program
synchronized =
    linked
    (class_under 0 (codes "Synchronized") [] (92 ∷ [])
    ∷ class_under 0 (codes "Counter") (field 35 (codes "n") int 0 ∷ []) (93 ∷ 94 ∷ [])
    ∷ class_under thread (codes "Adder") (field 36 (codes "c") counter 1 ∷ []) (95 ∷ 96 ∷ [])
    ∷ strings ∷ [])
    (with_handlers
    (main_method 34 5
    (new 35 ∷ dup ∷ calls_init 93 ∷ astore 1
    ∷ new 36 ∷ dup ∷ calls_init 95 ∷ astore 2 ∷ aload 2 ∷ aload 1 ∷ putfield counter 36 1
    ∷ new 36 ∷ dup ∷ calls_init 95 ∷ astore 3 ∷ aload 3 ∷ aload 1 ∷ putfield counter 36 1
    ∷ aload 2 ∷ start ∷ aload 3 ∷ start ∷ aload 2 ∷ join ∷ aload 3 ∷ join
    ∷ out ∷ aload 1 ∷ getfield int 35 0 ∷ println_int
    ∷ aload 2 ∷ start ∷ return
    ∷ astore 4 ∷ out ∷ iconst (pos 1) ∷ println_int ∷ return ∷ []))
    (catches 30 32 33 thread_state ∷ [])
    ∷ init_calling 35 0
    ∷ method 35 (codes "add") plain public_synchronized 1 (aload 0 ∷ aload 0 ∷ getfield int 35 0 ∷ iconst (pos 1) ∷ arith code.IADD ∷ putfield int 35 0 ∷ return ∷ [])
    ∷ init_calling 36 31
    ∷ method 36 (codes "run") plain public 1
    (aload 0 ∷ getfield counter 36 1 ∷ invoke code.INVOKEVIRTUAL [] None 94 ∷ aload 0 ∷ getfield counter 36 1 ∷ invoke code.INVOKEVIRTUAL [] None 94 ∷ return ∷ [])
    ∷ [])
    [] 92

-- class Flag { boolean set; }
-- class Setter implements Runnable {
--   Flag f;
--   public void run() { synchronized (f) { f.set = true; f.notifyAll(); } }
-- }
-- class Waiting {
--   public static void main(String[] args) throws Exception {
--     Flag f = new Flag(); Setter s = new Setter(); s.f = f;
--     synchronized (f) { new Thread(s).start(); while (!f.set) f.wait(); }
--     System.out.println(1);
--   }
-- }
abbrev pub waiting : Program
waiting =
    linked
    (class_under 0 (codes "Waiting") [] (92 ∷ [])
    ∷ class_under 0 (codes "Flag") (field 35 (codes "set") boolean 0 ∷ []) (93 ∷ [])
    ∷ record (class_under 0 (codes "Setter") (field 36 (codes "f") flag 0 ∷ []) (94 ∷ 95 ∷ [])) { interfaces = 6 ∷ [] }
    ∷ strings ∷ [])
    (main_method 34 3
    (new 35 ∷ dup ∷ calls_init 93 ∷ astore 1
    ∷ new 36 ∷ dup ∷ calls_init 94 ∷ astore 2 ∷ aload 2 ∷ aload 1 ∷ putfield flag 36 0
    ∷ aload 1 ∷ monitorenter
    ∷ new thread ∷ dup ∷ aload 2 ∷ invoke code.INVOKESPECIAL (runnable ∷ []) None 32 ∷ start
    ∷ aload 1 ∷ getfield boolean 35 0 ∷ does (op.IfZero code.IFNE 24) ∷ aload 1 ∷ invoke code.INVOKEVIRTUAL [] None 1 ∷ goto 18
    ∷ aload 1 ∷ monitorexit
    ∷ out ∷ iconst (pos 1) ∷ println_int
    ∷ return ∷ [])
    ∷ init_calling 35 0
    ∷ init_calling 36 0
    ∷ method 36 (codes "run") plain public 2
    (aload 0 ∷ getfield flag 36 0 ∷ dup ∷ astore 1 ∷ monitorenter
    ∷ aload 0 ∷ getfield flag 36 0 ∷ iconst (pos 1) ∷ putfield boolean 35 0
    ∷ aload 0 ∷ getfield flag 36 0 ∷ invoke code.INVOKEVIRTUAL [] None 3
    ∷ aload 1 ∷ monitorexit ∷ return ∷ [])
    ∷ [])
    [] 92

-- class Locker extends Thread {
--   Object a, b;
--   public void run() { synchronized (a) { synchronized (b) { } } }
-- }
-- class Deadlock {
--   public static void main(String[] args) throws Exception {
--     Object a = new Object(), b = new Object();
--     Locker s = new Locker(); s.a = a; s.b = b;
--     Locker t = new Locker(); t.a = b; t.b = a;
--     s.start(); t.start(); s.join();
--     System.out.println(1);
--   }
-- }
abbrev pub deadlock : Program
deadlock =
    linked
    (class_under 0 (codes "Deadlock") [] (92 ∷ [])
    ∷ class_under thread (codes "Locker") (field 35 (codes "a") any_object 1 ∷ field 35 (codes "b") any_object 2 ∷ []) (93 ∷ 94 ∷ [])
    ∷ strings ∷ [])
    (main_method 34 5
    (new 0 ∷ dup ∷ calls_init 0 ∷ astore 1
    ∷ new 0 ∷ dup ∷ calls_init 0 ∷ astore 2
    ∷ new 35 ∷ dup ∷ calls_init 93 ∷ astore 3
    ∷ aload 3 ∷ aload 1 ∷ putfield any_object 35 1 ∷ aload 3 ∷ aload 2 ∷ putfield any_object 35 2
    ∷ new 35 ∷ dup ∷ calls_init 93 ∷ astore 4
    ∷ aload 4 ∷ aload 2 ∷ putfield any_object 35 1 ∷ aload 4 ∷ aload 1 ∷ putfield any_object 35 2
    ∷ aload 3 ∷ start ∷ aload 4 ∷ start ∷ aload 3 ∷ join
    ∷ out ∷ iconst (pos 1) ∷ println_int
    ∷ return ∷ [])
    ∷ init_calling 35 31
    ∷ method 35 (codes "run") plain public 1
    (aload 0 ∷ getfield any_object 35 1 ∷ monitorenter ∷ aload 0 ∷ getfield any_object 35 2 ∷ monitorenter
    ∷ aload 0 ∷ getfield any_object 35 2 ∷ monitorexit ∷ aload 0 ∷ getfield any_object 35 1 ∷ monitorexit ∷ return ∷ [])
    ∷ [])
    [] 92
