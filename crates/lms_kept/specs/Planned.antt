-- What is planned of the trees that an index goes through, and of a signature by them.
use Rattle.std.specs.Prelude.{ℕ, ◌≡◌, ◌<◌, ◌≤◌, [], length, vec_capacity}
use Rattle.lms_spec.specs.Hss.{capacity_of, hss_signature_length}
use Rattle.lms_hss.specs.Keys.{hss_key_of}
use Rattle.lms_hss.specs.Levels.{IsAdmitted, levels_of}
use Rattle.lms_hss.specs.declared.key.HssKey.{HssKey}
use Rattle.lms_kept.specs.Ways.{ArePlanned, IsPlanned}
use Rattle.lms_kept.specs.declared.planned_trees.PlannedSignature.{PlannedSignature}
use Rattle.lms_kept.specs.declared.planned_trees.PlannedTrees.{PlannedTrees}

-- each level's tree that the index goes through is planned, with room for all levels
pub record PlansTrees (key : HssKey) (at : ℕ) (planned : PlannedTrees) : Type 0 where
  pub of_key : planned.key ≡ key
  pub of_index : planned.at ≡ at
  pub admitted : IsAdmitted key.levels
  pub within : at < capacity_of (hss_key_of key)
  pub none : planned.levels.items ≡ []
  pub room : length key.levels ≤ vec_capacity planned.levels
  pub top : IsPlanned (hss_key_of key) at 0 planned.top
  pub below : ArePlanned (hss_key_of key) at 1 planned.below.items

-- the trees that an index goes through are planned, with memory for a signature by it
pub record PlansSignature (key : HssKey) (index : ℕ) (planned : PlannedSignature) : Type 0 where
  pub trees : PlansTrees key index planned.trees
  pub empty : planned.memory.items ≡ []
  pub long : hss_signature_length (levels_of key.levels) ≤ vec_capacity planned.memory
