use Rattle.pmem_layout.proofs.OwnerLemmas.{owner_format, owner_version, owner_cores, owner_unused, owner_log_head, owner_base, owner_log_entry, owner_backup_tag, owner_hot_word, owner_object_tag, owner_object_slot, owner_frame}
use Rattle.pmem_layout.proofs.laws.owners.Goals as goal

pub returns-clause-format : goal.returns-clause-format
returns-clause-format c = owner_format

pub returns-clause-version : goal.returns-clause-version
returns-clause-version c = owner_version

pub returns-clause-cores : goal.returns-clause-cores
returns-clause-cores c = owner_cores

pub returns-clause-unused : goal.returns-clause-unused
returns-clause-unused c = owner_unused

pub returns-clause-log_head : goal.returns-clause-log_head
returns-clause-log_head c = owner_log_head

pub returns-clause-base : goal.returns-clause-base
returns-clause-base c = owner_base

pub returns-clause-log_entry : goal.returns-clause-log_entry
returns-clause-log_entry c = owner_log_entry

pub returns-clause-backup_tag : goal.returns-clause-backup_tag
returns-clause-backup_tag c = owner_backup_tag

pub returns-clause-hot_word : goal.returns-clause-hot_word
returns-clause-hot_word c = owner_hot_word

pub returns-clause-object_tag : goal.returns-clause-object_tag
returns-clause-object_tag c = owner_object_tag

pub returns-clause-object_slot : goal.returns-clause-object_slot
returns-clause-object_slot c = owner_object_slot

pub returns-clause-frame : goal.returns-clause-frame
returns-clause-frame c = owner_frame
