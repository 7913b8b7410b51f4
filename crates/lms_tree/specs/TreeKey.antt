-- What a `TreeKey` means.
use Rattle.std.specs.Prelude.{ℕ, ◌*◌, List}
use Rattle.std.specs.List.{concat}
use Rattle.lms_spec.specs.HashLength.{hash_length}
use Rattle.lms_spec.specs.Parameters.{lms_signature_length}
use Rattle.lms_spec.specs.Tree.{Tree, path_of, public_key_of, lms_signature}
use Rattle.lms_params.specs.LmsType.{lms_set_of}
use Rattle.lms_params.specs.OtsType.{ots_set_of}
use Rattle.lms_tree.specs.declared.tree_key.TreeKey.{TreeKey}

-- the tree of a key
abbrev pub tree_of : TreeKey → Tree
tree_of key =
    record { lms = lms_set_of key.lms; ots = ots_set_of key.ots; id = key.i; seed = key.seed }

-- the public key (5.3)
abbrev pub public_text : TreeKey → List ℕ
public_text key = public_key_of (tree_of key)

-- the signature of a message by leaf q (5.4.1)
abbrev pub signature_text : TreeKey → ℕ → List ℕ → List ℕ → List ℕ
signature_text key q randomizer message = lms_signature (tree_of key) q randomizer message

-- how many bytes a signature has (5.4)
abbrev pub signature_length_under : TreeKey → ℕ
signature_length_under key = lms_signature_length (lms_set_of key.lms) (ots_set_of key.ots)

-- the path of leaf q, as it is in a signature (5.4)
abbrev pub path_text : TreeKey → ℕ → List ℕ
path_text key q = concat (path_of (tree_of key) q)

-- how many bytes a path has (5.4)
abbrev pub path_length_under : TreeKey → ℕ
path_length_under key = hash_length * (tree_of key).lms.h
