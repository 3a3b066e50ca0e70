-- What an error tells, and the words in which a report gives it.
use Rattle.std.specs.Prelude.{ℕ, codes, decimal, List, ◌++◌, Option, Some, None}
use Rattle.class_file.specs.declared.error.ClassErr.{ClassErr}
use Rattle.class_file.specs.declared.error.ClassErr.TheVariants.{Magic, Version, Cut, PoolTag, PoolText, PoolLink, ItemLink, Flags, AttrLength, CodeLength, CodeCount, Twice, Extra, NoMemory}

-- want of memory tells nothing of the file
abbrev pub told : ClassErr → Option ClassErr
told NoMemory = None
told e = Some e

-- why a file is no class file
abbrev pub reason : ClassErr → List ℕ
reason Magic = codes "magic"
reason (Version major minor) = codes "version " ++ decimal major ++ (codes "." ++ decimal minor)
reason (Cut n) = codes "cut " ++ decimal n
reason (PoolTag i) = codes "pool tag " ++ decimal i
reason (PoolText i) = codes "pool text " ++ decimal i
reason (PoolLink i) = codes "pool link " ++ decimal i
reason (ItemLink n) = codes "item link " ++ decimal n
reason (Flags n) = codes "flags " ++ decimal n
reason (AttrLength n) = codes "attribute length " ++ decimal n
reason (CodeLength m) = codes "code length " ++ decimal m
reason (CodeCount m) = codes "code count " ++ decimal m
reason (Twice n) = codes "twice " ++ decimal n
reason (Extra n) = codes "extra " ++ decimal n
reason NoMemory = codes "want of memory"
