-- What `join` is asked for, and what it read.
use Rattle.lms_join_commands.specs.JoinLogs.{JoinNames, JoinParts}
use Rattle.lms_join_commands.specs.declared.join.JoinRequest.{JoinRequest}
use Rattle.lms_join_commands.specs.declared.join.Parts.{Parts}

-- the names of the files
abbrev pub names_of : JoinRequest → JoinNames
names_of request = record {
  public = request.public.now;
  endorsement = request.endorsement.now;
  signer = request.signer.now;
  signature = request.signature.now;
  out = request.out.now;
}

-- what they held
abbrev pub parts_of : Parts → JoinParts
parts_of parts = record {
  public = parts.public.items;
  endorsement = parts.endorsement.items;
  signer = parts.signer.items;
  signature = parts.signature.items;
}
