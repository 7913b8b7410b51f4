-- An LMS signature that is cut by its own typecodes (RFC 8554, 4.5 and 5.4).
use Rattle.std.specs.Prelude.{ℕ, ◌≡◌, ◌+◌, ◌*◌, ◌^◌, ◌<◌, List, ◌++◌, length}
use Rattle.lms_spec.specs.Bytes.{u32str}
use Rattle.lms_params.specs.LmsType.{lms_set_of}
use Rattle.lms_params.specs.OtsType.{ots_set_of}
use Rattle.lms_inspect.specs.declared.level.Level.{Level}

-- bytes begin with this typecode and n bytes more; `rest` is what follows
pub record BeginsCoded (code n : ℕ) (text rest : List ℕ) : Type 0 where
  pub body : List ℕ
  pub size : length body ≡ n
  pub parts : text ≡ u32str code ++ (body ++ rest)

-- bytes begin with an LMS signature that says so: its leaf, an LM-OTS signature (a typecode, the
-- randomizer and p hashes), and the typecode and the path of a tree in which that leaf is; `rest` is
-- what follows
pub record BeginsSigned (level : Level) (text rest : List ℕ) : Type 0 where
  pub after_leaf : List ℕ
  pub after_one_time : List ℕ
  pub parts : text ≡ u32str level.leaf ++ after_leaf
  pub one_time : BeginsCoded (ots_set_of level.ots).code (32 * ((ots_set_of level.ots).p + 1))
      after_leaf after_one_time
  pub path : BeginsCoded (lms_set_of level.lms).code (32 * (lms_set_of level.lms).h) after_one_time rest
  pub leaf_in_tree : level.leaf < 2 ^ (lms_set_of level.lms).h
