-- The words for the kinds of refusals.
use Rattle.std.specs.Prelude.{ℕ, List, codes}
use Rattle.link_rules.specs.declared.error.LinkWhy.{LinkWhy}
use Rattle.link_rules.specs.declared.error.LinkWhy.TheVariants.{SameClass, NoClass, WrongKind, FinalSuper, SuperLoop, LeftOutDesc, BadOverride, NoField, NoMethod, NoAccess, NoMain, TooMany}

-- the word that is printed
abbrev pub why_text : LinkWhy → List ℕ
why_text SameClass = codes "same-class"
why_text NoClass = codes "no-class"
why_text WrongKind = codes "wrong-kind"
why_text FinalSuper = codes "final-super"
why_text SuperLoop = codes "super-loop"
why_text LeftOutDesc = codes "left-out-desc"
why_text BadOverride = codes "bad-override"
why_text NoField = codes "no-field"
why_text NoMethod = codes "no-method"
why_text NoAccess = codes "no-access"
why_text NoMain = codes "no-main"
why_text TooMany = codes "too-many"
