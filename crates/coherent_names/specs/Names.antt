-- Names as they are lent, and as the refs of items say them.
use Rattle.std.specs.Prelude.{not, List, map, filter}
use Rattle.std.specs.List.{flat_map}
use Rattle.blk_base.specs.declared.key.Key.{Key}
use Rattle.blk_base.specs.Entries.{RefValue, ExtRefValue}
use Rattle.blk_base.specs.Leaf.{Item}
use Rattle.flat_model.specs.Names.{FlatName}
use Rattle.image_faults.specs.Said.{far_name, is_own_ref, names_in, near_name}
use Rattle.inode_lines.specs.Refs.{name_of}
use Rattle.coherent_names.specs.declared.name.Name.{Name}

abbrev pub flat_of : Name → FlatName
flat_of name = name_of name.found name.near

abbrev pub flat_names : List Name → List FlatName
flat_names names = map flat_of names

-- the names that near refs say, without the root directory's for itself ("INODE_REF")
abbrev pub near_names : Key → List RefValue → List FlatName
near_names key refs = map (near_name key) (filter (λ ref. not (is_own_ref key ref)) refs)

-- the names that far refs say ("INODE_EXTREF")
abbrev pub far_names : Key → List ExtRefValue → List FlatName
far_names key refs = map (far_name key) refs

-- all names that items say, one behind the other
abbrev pub all_names : List Item → List FlatName
all_names items = flat_map names_in items

-- the refs that are the root directory's name for itself
abbrev pub own_refs : Key → List RefValue → List RefValue
own_refs key refs = filter (is_own_ref key) refs
