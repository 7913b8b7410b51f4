-- Signatures by the nodes in some bytes, or by trees that were computed.
use Rattle.std.specs.Prelude.{ℕ, ◌≡◌, ◌⊎◌, Bool, List, Some, None, Option, IfSome, IfNone, IsTrue, IsFalse}
use Rattle.lms_spec.specs.Hss.{HssAccepts}
use Rattle.lms_spec.specs.Profile.{hss_public_key, hss_signature}
use Rattle.lms_hss.specs.Keys.{hss_key_of}
use Rattle.lms_hss.specs.declared.key.HssKey.{HssKey as KeyOfCode}
use Rattle.lms_kept.specs.Ways.{AreGenuine, EndsAlong, IsWay, public_of, Serves, SignsNoOther, Way, nodes_text}
use Rattle.lms_kept.specs.declared.kept_level.KeptLevel.{KeptLevel}

-- the nodes that are used are those of their key's trees, or there are none: all is computed
abbrev pub AreRight : Option Way → Type 0
AreRight None = Unit {0}
AreRight (Some way) = AreGenuine way

-- trees that were computed, and are genuine, or were made from nodes: what is signed of each tree
-- was then given with it, or is its own public key
abbrev pub AreMadeFrom : Option Way → Way → Type 0
AreMadeFrom None trees = AreGenuine trees
AreMadeFrom (Some way) trees = (way ≡ trees) ⊎ SignsNoOther way trees

-- trees for an index of this key, computed or made from nodes, and genuine where no nodes were used
-- or these are right
pub record AreTreesFor (nodes : Option Way) (key : KeyOfCode) (index : ℕ)
    (trees : Way) : Type 0 where
  pub way : IsWay trees
  pub of_key : trees.key ≡ key
  pub serves : Serves trees index
  pub from : AreMadeFrom nodes trees
  pub right : AreRight nodes → AreGenuine trees

-- a signature of a message by an index along trees: its one-time signature is the standard's, below
-- what is signed of the trees; where these are genuine, it is the standard's and accepted under the
-- key's public key
pub record IsSignedAlong (trees : Way) (index : ℕ) (randomizer message signature : List ℕ) : Type 0 where
  pub along : EndsAlong trees index randomizer message signature
  pub signature_is : AreGenuine trees
      → signature ≡ hss_signature (hss_key_of trees.key) index randomizer message
  pub accepted : AreGenuine trees
      → HssAccepts (hss_public_key (hss_key_of trees.key)) message signature

-- a signature of a message by an index of a key: its one-time signature is the standard's, below
-- what is signed of the trees, and it is accepted under their root; where the nodes that are used
-- are right, it is the standard's and accepted under the key's
pub record IsSignedBy (nodes : Option Way) (key : KeyOfCode) (index : ℕ)
    (randomizer message signature : List ℕ) : Type 0 where
  pub trees : Way
  pub are : AreTreesFor nodes key index trees
  pub along : EndsAlong trees index randomizer message signature
  pub checked : (other : KeptLevel) → HssAccepts (public_of trees other) message signature
  pub signature_is : AreRight nodes
      → signature ≡ hss_signature (hss_key_of key) index randomizer message
  pub accepted : AreRight nodes → HssAccepts (hss_public_key (hss_key_of key)) message signature

-- the nodes serve the index as they are
abbrev pub AlreadyServe : Option Way → ℕ → Type 0
AlreadyServe None index = ⊥
AlreadyServe (Some way) index = Serves way index

-- the nodes in the bytes, where there are any, are of this key
pub record AreNodesOf (text : Option (List ℕ)) (key : KeyOfCode) (nodes : Option Way) : Type 0 where
  pub way : IfSome nodes IsWay
  pub of_key : IfSome nodes (λ way. way.key ≡ key)
  pub text_is : IfSome nodes (λ way. text ≡ Some (nodes_text way))

-- the bytes are those of no genuine trees of a key
abbrev pub IsNotRight : Option (List ℕ) → KeyOfCode → Type 0
IsNotRight text key =
    (way : Way) → IsWay way → way.key ≡ key → text ≡ Some (nodes_text way) → ¬ AreGenuine way

-- a signature by the nodes in the bytes, or by none where these are not right. The trees that signed
-- are to be kept just where the nodes do not serve the index as they are
pub record IsSignedByText (text : Option (List ℕ)) (key : KeyOfCode) (index : ℕ)
    (randomizer message signature : List ℕ) (to_keep : Option Way) : Type 0 where
  pub nodes : Option Way
  pub of_text : AreNodesOf text key nodes
  pub anew : IfNone nodes (IsNotRight text key)
  pub signed : IsSignedBy nodes key index randomizer message signature
  pub kept_are : IfSome to_keep (λ trees. trees ≡ signed.trees)
  pub changed : IfSome to_keep (λ _. ¬ AlreadyServe nodes index)
  pub unchanged : IfNone to_keep (AlreadyServe nodes index)

-- trees for an index of a key, made from the nodes in the bytes; `held` says whether these nodes
-- serve the index as they are
pub record AreTreesOf (text : List ℕ) (key : KeyOfCode) (index : ℕ) (trees : Way)
    (held : Bool) : Type 0 where
  pub nodes : Way
  pub of_text : AreNodesOf (Some text) key (Some nodes)
  pub are : AreTreesFor (Some nodes) key index trees
  pub same : IsTrue held → Serves nodes index
  pub other : IsFalse held → ¬ Serves nodes index
