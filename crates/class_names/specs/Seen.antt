-- A member whose texts are lent.
use Rattle.class_names.specs.declared.texts.Called.{Called}
use Rattle.class_names.specs.Texts.{Member}

-- its three texts
abbrev pub seen_member : Called → Member
seen_member m = record { class = m.class.now; name = m.name.now; desc = m.desc.now }
